-- Each turn appends what the writer took; an exit leaves a beginning.
use Rattle.std.proofs.Common.{arith}
use Rattle.std.proofs.lemmas.Grind.{common_steps}
use Rattle.counted_io.proofs.Appending.{Appends-none, Appends-Keeps, Appends-take, AppendsBeginning-take}
use Rattle.counted_io.proofs.writing.write_text.Goals as goal

pub returns-in-Ok-eq0 : goal.returns-in-Ok-eq0
returns-in-Ok-eq0 g c = record {
  ok = tt;
  same = tt;
  err = AppendsBeginning-take _ _ c.loop-written.written _
      (Appends-none _ _ _ _ _ _ c.in-Ok-eq0.field-0-test c.loop-written.invariant.0 c.in-Ok-eq0.ensures.bytes);
  fault = grind (arith, common_steps);
}

pub loop-written-preserved : goal.loop-written-preserved
loop-written-preserved g c =
    (Appends-take _ _ _ c.loop-written.written c.in-Ok.count _ c.loop-written.invariant.0 c.in-Ok.ensures.bytes, grind (arith, common_steps))

pub returns-in-Err : goal.returns-in-Err
returns-in-Err g c = record {
  ok = tt;
  same = tt;
  err = AppendsBeginning-take _ _ c.loop-written.written _
      (Appends-Keeps _ _ _ _ c.loop-written.invariant.0 c.in-Err.ensures.bytes);
  fault = grind (arith, common_steps);
}
