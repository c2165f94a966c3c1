-- `ask` asks a lower class at each call.
use Rattle.asking.proofs.+ask.Given as goal

abbrev pub decreases-ask : goal.decreases-ask
decreases-ask l = l.i
