use Rattle.std.proofs.Common.{ℕ, List, inr, subst}
use Rattle.std.specs.Prelude.{Vec}
use Rattle.std.specs.declared.alloc.Global.{Global}
use Rattle.suite_files.proofs.Shelving.{file-in}
use Rattle.bpf_load.specs.Targets.{contents}
use Rattle.suite_files.specs.Links.{IsTargetOf}
use Rattle.suite_files.specs.Shelves.{IsFile}
use Rattle.suite_files.proofs.put.asked_program.Goals as goal

pub returns-in-Ok-made_of-clause-ok : goal.returns-in-Ok-made_of-clause-ok
returns-in-Ok-made_of-clause-ok g c =
    let bytes_at = g.F.Opener.bytes_at c.args.files.now in
    let object = c.as_slice-object.result.now in
    let file =
    file-in bytes_at c.args.place.now c.object_of-name.result.now c.shelve.new.shelf.items c.in-Ok-shelve.at c.index.result.now object
    c.in-Ok-shelve.ensures.at c.index.ensures c.as_slice-object.ensures.value in
    record {
      object = object;
      file = subst (λ (name : List ℕ). IsFile bytes_at c.args.place.now name object) c.object_of-name.ensures file;
      with = contents c.in-Ok.others.items;
      others = c.in-Ok.ensures.ok;
      all = contents c.in-Ok-completed.all.items;
      completes = c.in-Ok-completed.ensures;
      target = c.target_of-target.result;
      is_target = subst (λ (all : List (Vec ℕ Global)). IsTargetOf c.args.asked.now object (contents all) c.target_of-target.result) c.as_slice.ensures.value
          c.target_of-target.ensures;
      loads = c.in-Ok-made_of.ensures.program;
      is_table = c.in-Ok-made_of.ensures.table;
    }

pub returns-clause-err : goal.returns-clause-err
returns-clause-err g c =
    let bytes_at = g.F.Opener.bytes_at c.args.files.now in
    let object = c.as_slice-object.result.now in
    let file =
    file-in bytes_at c.args.place.now c.object_of-name.result.now c.shelve.new.shelf.items c.in-Ok-shelve.at c.index.result.now object
    c.in-Ok-shelve.ensures.at c.index.ensures c.as_slice-object.ensures.value in
    inr (inr (record {
      object = object;
      file = subst (λ (name : List ℕ). IsFile bytes_at c.args.place.now name object) c.object_of-name.ensures file;
      with = contents c.in-Ok.others.items;
      others = c.in-Ok.ensures.ok;
      all = contents c.in-Ok-completed.all.items;
      completes = c.in-Ok-completed.ensures;
      target = c.target_of-target.result;
      is_target = subst (λ (all : List (Vec ℕ Global)). IsTargetOf c.args.asked.now object (contents all) c.target_of-target.result) c.as_slice.ensures.value
          c.target_of-target.ensures;
      why = c.in-Err-made_of.ensures.err;
    }))
