-- Objects that are joined to FILE, one after another, and which slots of the code they leave.
use Rattle.std.specs.Prelude.{◌≡◌, ℕ, zero, suc, Bool, List, [], None, Ok, get_or, length}
use Rattle.bpf_join.specs.declared.joined.Joined.{Joined}
use Rattle.bpf_link.specs.Links.{planned}
use Rattle.bpf_link.specs.Parts.{slots_in}
use Rattle.bpf_link.specs.declared.plan.Plan.{Plan}
use Rattle.bpf_link_laws.specs.Codes.{answer}
use Rattle.bpf_link_laws.specs.Joins.{IsJoin, first_of, second_of}
use Rattle.bpf_load.specs.Targets.{contents, object_of}
use Rattle.bpf_load.specs.declared.loading.Sources.{Sources}
use Rattle.bpf_load.specs.declared.target.Target.{Target}

-- Bytes are what an object comes to with one more that is joined to it, and the linker takes their code from one section, and none from `.text`.
pub record IsOneMore (before other section : List ℕ) (as_compiled : Bool) (bytes : List ℕ) : Type 0 where
  pub joined : Joined
  pub bytes_are : bytes ≡ joined.bytes.items
  pub join : IsJoin before other section as_compiled joined
  pub no_text : (plan : Plan) → planned bytes section ≡ Ok plan → slots_in plan.parts.text ≡ 0

-- They are what an object comes to with the first n of others.
abbrev pub AreJoined : (own : List ℕ) (others : List (List ℕ)) (section : List ℕ) (as_compiled : Bool) (n : ℕ) (bytes : List ℕ) → Type 0
AreJoined own others section as_compiled zero bytes = bytes ≡ own
AreJoined own others section as_compiled (suc n) bytes =
    (before : List ℕ) × AreJoined own others section as_compiled n before × IsOneMore before (get_or others n []) section as_compiled bytes

-- None of these answers what a slot of the code calls.
abbrev pub IsUnanswered : (own : List ℕ) (others : List (List ℕ)) (section : List ℕ) (as_compiled : Bool) (n : ℕ) (bytes : List ℕ)
    → AreJoined own others section as_compiled n bytes → ℕ → Type 0
IsUnanswered own others section as_compiled zero bytes joins slot = Unit {0}
IsUnanswered own others section as_compiled (suc n) bytes joins slot =
    IsUnanswered own others section as_compiled n joins.0 joins.1 slot
    × (answer (first_of joins.2.join) (second_of joins.2.join) slot ≡ None)

-- The object that is linked is what FILE comes to with all of the others; and none of them answers what a slot of the code calls.
abbrev pub AreOthers : Target → Sources → Type 0
AreOthers target sources =
    let others = contents target.with.now in
    AreJoined sources.own.items others target.section.now target.as_compiled (length others) (object_of sources)

abbrev pub CallsNone : (target : Target) (sources : Sources) → AreOthers target sources → ℕ → Type 0
CallsNone target sources joins slot =
    let others = contents target.with.now in
    IsUnanswered sources.own.items others target.section.now target.as_compiled (length others) (object_of sources) joins slot
