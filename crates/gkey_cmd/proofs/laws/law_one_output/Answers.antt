-- What a command prints is one.
use Rattle.gkey_cmd.proofs.OneReport.{one_report}
use Rattle.gkey_cmd.proofs.OneMerged.{one_merged}
use Rattle.gkey_cmd.proofs.OneDemo.{one_demo}
use Rattle.gkey_cmd.proofs.OneAnswer.{one_output, one_answer}
use Rattle.gkey_cmd.proofs.OneRun.{one_run}
use Rattle.gkey_cmd.proofs.laws.law_one_output.Goals as goal

pub returns-clause-report : goal.returns-clause-report
returns-clause-report c = one_report

pub returns-clause-merged : goal.returns-clause-merged
returns-clause-merged c = one_merged

pub returns-clause-demo : goal.returns-clause-demo
returns-clause-demo c = one_demo

pub returns-clause-answer : goal.returns-clause-answer
returns-clause-answer c = λ command files limits answer other output more h k. one_answer command files limits answer other output more h.1 k.1

pub returns-clause-answered : goal.returns-clause-answered
returns-clause-answered c = λ command files limits answer other output more one h k. one_output command files limits answer other output more one h.1 k.1

pub returns-clause-written : goal.returns-clause-written
returns-clause-written c = one_run
