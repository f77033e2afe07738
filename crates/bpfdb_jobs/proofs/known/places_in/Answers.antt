use Rattle.std.proofs.Common.{◌∙◌, Bool, ap, inl, inr, map, refl, subst, sym}
use Rattle.std.specs.Prelude.{None, Option, Some, ℕ}
use Rattle.bpf_link.specs.declared.fault.LinkFault.TheVariants.{Memory}
use Rattle.bpf_load.specs.declared.fault.ObjectFault.{ObjectFault}
use Rattle.bpf_load.specs.declared.loading.LinkedObject.{LinkedObject}
use Rattle.bpf_load.specs.Faults.{Tells}
use Rattle.bpf_link.specs.Names.{fault_names}
use Rattle.bpf_lines.specs.declared.objects.ObjectLines.{ObjectLines}
use Rattle.std.specs.Prelude.{List}
use Rattle.bpfdb_jobs.specs.Jobs.{AreLinesFor, HasPlace, HasPlaces, own_by, section_of}
use Rattle.bpfdb_jobs.specs.Refusals.{LacksPlaces}
use Rattle.bpfdb_jobs.specs.declared.job.Job.{Job}
use Rattle.bpfdb_jobs.proofs.known.places_in.Goals as goal

-- memory may run out for each program of which lines are told
exhausted : (job : Job) (linked : LinkedObject) (all : List ObjectLines) (it : ObjectFault) → AreLinesFor job linked all
    → Tells Memory None (fault_names linked.sources.own.items (section_of job) Memory) it → LacksPlaces job linked it
exhausted job linked all it lines told = record {
  why = record { index = None; object = linked.sources.own.items; fault = Memory };
  is_why = inl (refl, refl, inr (lines.own.plan, lines.first.plans, inl refl));
  tells = told;
}

pub returns-in-Err-clause-err : goal.returns-in-Err-clause-err
returns-in-Err-clause-err c = exhausted c.args.job.now c.args.object.now c.args.lines.now _ c.requires.lines.0 c.want_of_memory.ensures

pub returns-in_default-clause-err : goal.returns-in_default-clause-err
returns-in_default-clause-err c =
    exhausted c.args.job.now c.args.object.now c.args.lines.now _ c.requires.lines.0 c.want_of_memory-in_default.ensures

pub returns-in-Err-program_slots-clause-err : goal.returns-in-Err-program_slots-clause-err
returns-in-Err-program_slots-clause-err c =
    exhausted c.args.job.now c.args.object.now c.args.lines.now _ c.requires.lines.0 c.want_of_memory-in-Err-program_slots.ensures

pub returns-in-Ok-program_slots-clause-ok : goal.returns-in-Ok-program_slots-clause-ok
returns-in-Ok-program_slots-clause-ok c =
    let job = c.args.job.now in
    let linked = c.args.object.now in
    let slots = rw c.as_slice-words.ensures.value at c.in-Ok-program_slots.ensures in
    record {
      goals = subst (λ (place : Option (List ℕ)). HasPlace place job (Some linked) (Some c.in-Ok-program_slots.goals.items)) c.in-Some.ensures
          (c.args.lines.now, c.requires.lines.0, slots);
      texts = subst (λ (tells : Bool). HasPlaces tells job (Some linked) (Some (map (λ text. text.items) c.in-Ok.texts.items))) (sym c.requires.tells)
          (c.args.lines.now, c.requires.lines.0, rw c.as_slice-words.ensures.value at c.in-Ok.ensures);
      own = (c.args.lines.now, c.requires.lines.0, c.own_code-own.ensures ∙ ap own_by (rw c.as_slice-words.ensures.value at c.own_slots.ensures));
      functions = c.in-Ok-functions_in.ensures;
    }
