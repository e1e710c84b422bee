-- `replay_text::put_run` meets its contract: what the run came to is written. Assumes nothing.
use Rattle.lines.proofs.PutLaws.{same-put}
use Rattle.replay_text.proofs.put_run.Goals as goal

pub returns : goal.returns
returns c =
    same-put c.run_cleared-ran.ensures.text c.put_ran.ensures
