use Rattle.std.proofs.Common.{◌+◌, ◌*◌}
use Rattle.key_valuations.proofs.threads.+leads.Given as goal

abbrev pub decreases-leads_in_threads : goal.decreases-leads_in_threads
decreases-leads_in_threads g l = 2 * l.threads

abbrev pub decreases-lower : goal.decreases-lower
decreases-lower g l = 2 * l.theirs + 1

abbrev pub decreases-upper : goal.decreases-upper
decreases-upper g l = 2 * l.ours + 1
