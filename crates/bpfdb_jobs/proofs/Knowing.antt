-- What is known of the slots of a program whose lines can't be read.
use Rattle.std.proofs.Common.{ℕ, ◌≡◌, ◌∙◌, Bool, true, false, List, Option, Some, None, ap, subst, sym, refl}
use Rattle.std.specs.Prelude.{◌||◌, is_some}
use Rattle.bpf_lines.specs.declared.objects.ObjectLines.{ObjectLines}
use Rattle.bpf_lines.specs.Lookups.{AreFunctionsOf}
use Rattle.bpf_lines.specs.declared.lookups.Functions.{Functions}
use Rattle.bpf_load.specs.declared.fault.ObjectFault.{ObjectFault}
use Rattle.bpf_load.specs.declared.loading.LinkedObject.{LinkedObject}
use Rattle.bpfdb_jobs.specs.Jobs.{AreLinesFor, HasFunctions, HasPlace, HasPlaces, LacksLines, asked_place, is_memory, own_by, tells_calls, tells_places}
use Rattle.bpfdb_jobs.specs.Objects.{ArePlaces, HasLines, insists}
use Rattle.bpfdb_jobs.specs.Refusals.{LacksPlaces}
use Rattle.bpfdb_jobs.specs.declared.job.Job.{Job}
use Rattle.bpfdb_jobs.specs.declared.known.Places.{Places}

neither : (a b : Bool) → (a || b) ≡ false → (a ≡ false) × (b ≡ false)
neither true b e = absurd cc
neither false true e = absurd cc
neither false false e = (refl, refl)

is-none : (place : Option (List ℕ)) → is_some place ≡ false → place ≡ None
is-none None none = refl
is-none (Some place) none = absurd cc

pub lacks-lines : (job : Job) (linked : LinkedObject) (it : ObjectFault) → LacksPlaces job linked it → is_memory it.fault ≡ false → LacksLines job linked
lacks-lines job linked it l some = (l.why, l.is_why, ap is_memory (sym l.tells.is_fault) ∙ some)

pub told-none : (job : Job) (linked : LinkedObject) → tells_places job.ask ≡ true → LacksLines job linked → HasPlaces (tells_places job.ask) job (Some linked) None
told-none job linked tells lacks = subst (λ (b : Bool). HasPlaces b job (Some linked) None) (sym tells) lacks

no-functions : (job : Job) (linked : LinkedObject) (tells : Bool) → LacksLines job linked → HasFunctions tells job (Some linked) None
no-functions job linked true lacks = (lacks, (refl, refl, refl))
no-functions job linked false lacks = (refl, refl, refl)

-- with none of them
pub nothing-known : (job : Job) (linked : LinkedObject) (it : ObjectFault) (places : Places) → tells_places job.ask ≡ true → LacksPlaces job linked it
    → insists job it.fault ≡ false → places.texts ≡ None → places.own ≡ own_by (0, 0) → places.goals ≡ None → places.functions ≡ None → ArePlaces job (Some linked) places × LacksLines job linked
nothing-known job linked it places tells l isnt texts own goals functions =
    let both = neither (is_some (asked_place job.ask)) (is_memory it.fault) isnt in
    let lacks = lacks-lines job linked it l both.1 in (
      record {
        goals = rw goals (subst (λ (place : Option (List ℕ)). HasPlace place job (Some linked) None) (sym (is-none (asked_place job.ask) both.0)) refl);
        texts = rw texts (told-none job linked tells lacks);
        functions = rw functions (no-functions job linked (tells_calls job.ask) lacks);
        own = rw texts own;
      },
      lacks,
    )

-- with its lines
pub has-lines : (job : Job) (linked : LinkedObject) (all : List ObjectLines) → tells_places job.ask ≡ true → AreLinesFor job linked all
    → HasLines job (Some linked) (tells_places job.ask)
has-lines job linked all tells lines = subst (HasLines job (Some linked)) (sym tells) (all, lines)

pub needs-none : (job : Job) (linked : LinkedObject) → tells_places job.ask ≡ false → HasLines job (Some linked) (tells_places job.ask)
needs-none job linked silent = subst (HasLines job (Some linked)) (sym silent) tt

-- of a program that comes from none
no-goals : (job : Job) (place : Option (List ℕ)) → HasPlace place job None None
no-goals job (Some place) = refl
no-goals job None = refl

pub no-places-told : (job : Job) (tells : Bool) → HasPlaces tells job None None
no-places-told job true = refl
no-places-told job false = refl

no-functions-told : (job : Job) (tells : Bool) → HasFunctions tells job None None
no-functions-told job true = (refl, refl, refl)
no-functions-told job false = (refl, refl, refl)

-- where no calls are told
pub no-calls-told : (job : Job) (linked : LinkedObject) (tells : Bool) → tells ≡ false → HasFunctions tells job (Some linked) None
no-calls-told job linked true e = absurd cc
no-calls-told job linked false e = (refl, refl, refl)

pub calls-told : (job : Job) (linked : LinkedObject) (all : List ObjectLines) (f : Functions) (tells : Bool) → tells ≡ true → AreLinesFor job linked all
    → AreFunctionsOf job.target.packet linked.program.words.items all f → HasFunctions tells job (Some linked) (Some f)
calls-told job linked all f true e lines are = (all, lines, are)
calls-told job linked all f false e lines are = absurd cc

pub none-known : (job : Job) (places : Places) → places.texts ≡ None → places.own ≡ own_by (0, 0) → places.goals ≡ None → places.functions ≡ None → ArePlaces job None places
none-known job places texts own goals functions = record {
  goals = rw goals (no-goals job (asked_place job.ask));
  texts = rw texts (no-places-told job (tells_places job.ask));
  own = own;
  functions = rw functions (no-functions-told job (tells_calls job.ask));
}
