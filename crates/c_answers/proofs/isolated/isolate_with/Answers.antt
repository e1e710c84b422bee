-- `c_answers::isolated::isolate_with` meets its contract: each way out is one of the answer's with an output. Assumes nothing.
use Rattle.c_answers.proofs.IsolateLaws.{counts-fit, call-refused, call-short, call-isolated}
use Rattle.c_answers.proofs.isolated.isolate_with.Goals as goal

pub returns-in-Err : goal.returns-in-Err
returns-in-Err c = call-refused _ _ _ _ c.isolate.ensures _ _ _ c.in-Err.is c.refused_numbers.ensures

pub returns-then-out-lt-PATTERN_SIZE : goal.returns-then-out-lt-PATTERN_SIZE
returns-then-out-lt-PATTERN_SIZE c =
    call-short _ _ _ _ c.isolate.ensures _ _ _ c.in-Ok.is c.if-out-lt-PATTERN_SIZE.true c.refused_numbers-then-out-lt-PATTERN_SIZE.ensures

pub isolated_numbers-requires : goal.isolated_numbers-requires
isolated_numbers-requires c = counts-fit _ _ _ _ c.isolate.ensures _ c.in-Ok.is

pub returns : goal.returns
returns c =
    call-isolated _ _ _ _ c.isolate.ensures _ _ _ c.in-Ok.is _ c.if-out-lt-PATTERN_SIZE.false
    c.isolated_numbers.ensures c.put_pattern.ensures
