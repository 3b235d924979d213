mod SiftedSteps
