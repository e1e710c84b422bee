-- `replay_files::read_all` is safe and ends: at is at most the length, and each read that goes on brings a byte.
-- Assumes what std says of a read.
use Rattle.std.proofs.Common.{◌≤◌, ◌-◌, length}
use Rattle.replay_files.proofs.read_all.Given as goal

abbrev pub invariant-loop-at : goal.invariant-loop-at
invariant-loop-at g l = l.at ≤ length l.buf

abbrev pub decreases-loop-at : goal.decreases-loop-at
decreases-loop-at g l = length l.initial.buf - l.at
