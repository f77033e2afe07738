-- The rows of a table, and the words that run.
use Rattle.std.proofs.Common.{◌≡◌, ℕ, List, [], ◌∷◌, None, length, refl, sym, ap, subst, ◌∙◌, arith, take, take_all}
use Rattle.bpf_link.specs.Links.{planned, unlinked}
use Rattle.bpf_link.specs.Programs.{Asked, IsLinkedAs}
use Rattle.bpf_link.specs.declared.linker.Linked.{Linked}
use Rattle.bpf_link.specs.declared.plan.Plan.{Plan}
use Rattle.bpf_link.proofs.Inversions.{ok_same}
use Rattle.bpf_link_laws.proofs.Inversions.{plan_is}
use Rattle.bpf_lines.specs.Objects.{AreFunctions, begin_of, slots_of}
use Rattle.bpf_lines.specs.declared.objects.ObjectLines.{ObjectLines}
use Rattle.bpf_load.specs.Targets.{JoinsTo, asked_of, contents, object_of, with_joined}
use Rattle.std.specs.Prelude.{sum_by}
use Rattle.bpf_lines_laws.specs.Kept.{IsKept, code_begin, own_begin}
use Rattle.bpf_lines_laws.specs.Joins.{IsUnanswered}
use Rattle.bpf_lines_laws.specs.Laws.{AreTheSlots, JoinedLinesAreTheSlots, LinesAreTheSlots}
use Rattle.bpf_lines_laws.specs.Origins.{origins, rows_from}
use Rattle.bpf_lines_laws.proofs.Joins.{as_many, chain}
use Rattle.bpf_lines_laws.proofs.Rows.{all_length, of_all}
use Rattle.bpf_lines_laws.proofs.Sizes.{begins}
use Rattle.bpf_lines_laws.proofs.Sources.{AreSources, alone}
use Rattle.bpf_lines_laws.proofs.Words.{all_fit, code_slots, code_there, parts_of}

begin_is : (asked : Asked) (program : Linked) (it : IsLinkedAs asked program) (all : List ObjectLines) → code_slots (parts_of it) ≡ length (origins all)
    → begin_of asked.packet program.words.items (sum_by slots_of all) ≡ code_begin it
begin_is asked program it all size =
    ap (begin_of asked.packet program.words.items) (sym (size ∙ all_length all))
    ∙ begins asked.packet program.words.items (own_begin it) (code_slots (parts_of it)) (all_fit asked program it)

pub are_slots : (asked : Asked) (program : Linked) (it : IsLinkedAs asked program) (all : List ObjectLines) (Stays : ℕ → Type 0)
    → AreSources (unlinked (parts_of it)) (code_slots (parts_of it)) all Stays → AreTheSlots it all (λ n. IsKept it n × Stays n)
are_slots asked program it all Stays sources = record {
  rows = of_all all program.words.items (begin_of asked.packet program.words.items (sum_by slots_of all))
      ∙ ap (λ first. rows_from program.words.items first (origins all)) (begin_is asked program it all sources.size);
  slots = λ n k d inside stays small. code_there asked program it n k stays.0 small ∙ sources.same n k d inside stays.1 small;
}

no_more : (more : List ObjectLines) → AreFunctions [] more → more ≡ []
no_more [] e = refl
no_more (lines ∷ more) e = absurd e

pub law : LinesAreTheSlots
law target file loaded loads all none told =
    let it = loads.linked in
    let own = loaded.sources.own.items in
    let section = target.section.now in
    let joined : loaded.sources.joined ≡ None = subst (λ others. JoinsTo own others section target.as_compiled loaded.sources.joined) none loads.gathers.joined in
    let object : object_of loaded.sources ≡ own = ap (with_joined own) joined in
    let plan : it.linked.begun.plan ≡ told.own.plan =
    ok_same it.linked.begun.plan told.own.plan (sym it.linked.begun.plans ∙ ap (λ bytes. planned bytes section) object ∙ told.first.plans) in
    let one : all ≡ told.own ∷ [] = told.behind.order ∙ ap (λ more. told.own ∷ more) (no_more told.behind.more told.behind.functions) in
    let sources : AreSources (unlinked (parts_of it)) (code_slots (parts_of it)) all (λ n. n ≡ n) =
    subst (λ all. AreSources (unlinked (parts_of it)) (code_slots (parts_of it)) all (λ n. n ≡ n)) (sym one)
    (subst (λ (plan : Plan). AreSources (unlinked plan.parts) (code_slots plan.parts) (told.own ∷ []) (λ n. n ≡ n)) (sym plan)
    (alone told.own (λ n. n ≡ n) (plan_is own section told.own.plan told.first.plans).whole)) in
    let tells = are_slots (asked_of target loaded.sources) loaded.program it all (λ n. n ≡ n) sources in
    record { rows = tells.rows; slots = λ n k d inside kept small. tells.slots n k d inside (kept, refl) small }

pub joined_law : JoinedLinesAreTheSlots
joined_law target file loaded loads joins all told =
    let it = loads.linked in
    let own = loaded.sources.own.items in
    let section = target.section.now in
    let others = contents target.with.now in
    let more = told.behind.more in
    let object = object_of loaded.sources in
    let Stays = IsUnanswered own others section target.as_compiled (length others) object joins in
    let sources = chain own section others target.as_compiled told.own more told.first told.behind.functions (length others) object joins (omega arith) it.linked.begun.plan it.linked.begun.plans in
    let many = as_many others more told.behind.functions in
    let whole : told.own ∷ take (length others) more ≡ all = ap (λ l. told.own ∷ l) (take_all (length others) more (omega (arith, many))) ∙ sym told.behind.order in
    are_slots (asked_of target loaded.sources) loaded.program it all Stays
    (subst (λ all. AreSources (unlinked (parts_of it)) (code_slots (parts_of it)) all Stays) whole sources)
