use Rattle.std.proofs.Common.{◌∙◌, List, Option, ℕ, refl, sym, subst}
use Rattle.bpfdb.specs.Done.{Replaced, Unreplaced}
use Rattle.bpfdb.specs.Files.{world_of}
use Rattle.bpfdb.specs.Tests.{IsPlaceOf, TestsIn}
use Rattle.bpfdb_options.specs.declared.ask.TestAsk.{TestAsk}
use Rattle.bpfdb.proofs.doing.do_tests.Goals as goal

pub returns-in-Err-clause-does : goal.returns-in-Err-clause-does
returns-in-Err-clause-does g c =
    Unreplaced c.in-Err.fault
    (record {
      ask = c.args.ask.now;
      asked = c.requires.tests;
      linux = _;
      library = c.library_of-library.ensures;
      place = c.place_of-place.result;
      is_place = subst (λ (linux : Option (List ℕ)). IsPlaceOf c.args.plan.now.file.now c.args.ask.now linux c.place_of-place.result) c.lent.ensures c.place_of-place.ensures;
      why = c.in-Err.ensures.err;
    }) (refl, refl, c.refuse_tests.ensures.told, c.refuse_tests.ensures.value)

pub returns-clause-does : goal.returns-clause-does
returns-clause-does g c =
    let file = c.args.bytes.now.file.now in
    let world = world_of g.F.Opener.bytes_at c.args.host.now in
    let does = rw c.as_slice.ensures.value at c.do_job.ensures.does in
    let place = subst (λ (linux : Option (List ℕ)). IsPlaceOf c.args.plan.now.file.now c.args.ask.now linux c.place_of-place.result) c.lent.ensures c.place_of-place.ensures in
    let made =
    subst (λ (ask : Option TestAsk). TestsIn ask world c.args.plan.now file c.in-Ok.tests.items) (sym c.requires.tests)
    (_, c.place_of-place.result, c.library_of-library.ensures, place, c.in-Ok.ensures.ok) in
    Replaced c.in-Ok.tests.items made does.0 does.1 does.2
