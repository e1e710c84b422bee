-- The status that the program ends with. Assumes nothing.
use Rattle.std.specs.Prelude.{◌≡◌, ◌⊎◌}
use Rattle.std.specs.declared.process.ExitCode.{ExitCode}
use Rattle.std.specs.Process.{exit_status}

-- 0, whatever the files hold and wherever the text goes; 141 where nobody reads the output any more
abbrev pub IsStatus : ExitCode → Type 0
IsStatus end = (exit_status end ≡ 0) ⊎ (exit_status end ≡ 141)
