mod Uncounted
