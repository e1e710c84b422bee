-- `slots::choose::given_up` meets its contract: of the slots below i the one that is given up first is kept. Assumes nothing.
use Rattle.slots.proofs.ChooseLaws.{FirstSoFar}
use Rattle.slots.proofs.choose.given_up.Given as goal

abbrev pub invariant-loop-i : goal.invariant-loop-i
invariant-loop-i l = FirstSoFar l.keeper l.i l.best
