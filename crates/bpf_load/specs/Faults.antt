-- Why no program comes of FILE: the first step that isn't done. Of an object these are the entries of its maps, its programs in turn, the stubs, the
-- others, the link; then its maps and the checker. And what is told of that.
use Rattle.std.specs.Prelude.{ℕ, ◌≡◌, nat_lt, Bool, true, false, if◌then◌else◌, List, [], ◌∷◌, Option, Some, None, Result, Ok, Err, get_or, length}
use Rattle.std.specs.Borrow.{Bor}
use Rattle.bpf_counts.specs.Counted.{IsCountFault, IsCounted}
use Rattle.bpf_counts.specs.declared.told.CountFault.{CountFault}
use Rattle.bpf_isa.specs.Checker.{IsRefused}
use Rattle.bpf_isa.specs.Maps.{IsFirstBadMap, IsListFault}
use Rattle.bpf_isa.specs.declared.fault.MapFault.{MapFault}
use Rattle.bpf_isa.specs.declared.maps.MapShape.{MapShape}
use Rattle.bpf_join.specs.Chains.{IsChainFault}
use Rattle.bpf_join.specs.declared.chain.ChainFault.{ChainFault}
use Rattle.bpf_join.specs.declared.fault.JoinFault.{JoinFault}
use Rattle.bpf_join.specs.declared.fault.JoinFault.TheVariants.{First, Second}
use Rattle.bpf_link.specs.Names.{fault_names}
use Rattle.bpf_link.specs.Programs.{IsLinkRefusal}
use Rattle.bpf_link.specs.declared.fault.LinkFault.{LinkFault}
use Rattle.bpf_link.specs.declared.fault.LinkFault.TheVariants as link
use Rattle.bpf_link.specs.declared.stubs.Stub.{Stub}
use Rattle.bpf_text.specs.Listing.{IsFaultOf}
use Rattle.bpf_turns.specs.Turned.{IsTurnFault}
use Rattle.bpf_turns.specs.declared.seats.TurnFault.{TurnFault}
use Rattle.input_texts.specs.Counts.{map_in}
use Rattle.input_texts.specs.Turns.{name_in}
use Rattle.bpf_load.specs.Targets.{AreNamedMaps, Gathers, Holds, IsOwn, LinksTo, asked_of, contents, object_of, stubs_of, texts}
use Rattle.bpf_load.specs.declared.fault.ObjectFault.{ObjectFault}
use Rattle.bpf_load.specs.declared.fault.TargetFault.{TargetFault}
use Rattle.bpf_load.specs.declared.fault.TargetFault.TheVariants as why
use Rattle.bpf_load.specs.declared.loading.LinkedObject.{LinkedObject}
use Rattle.bpf_load.specs.declared.loading.Sources.{Sources}
use Rattle.bpf_load.specs.declared.target.SourceKind.{SourceKind}
use Rattle.bpf_load.specs.declared.target.SourceKind.TheVariants as kind
use Rattle.bpf_load.specs.declared.target.Target.{Target}

-- What is told: a fault, which of the others has it, and a name, one that was asked for or those that stand in the object.
abbrev pub or_found : Option (Bor (List ℕ)) → List ℕ → List ℕ
or_found None found = found
or_found (Some asked) found = asked.now

abbrev pub name_of : ObjectFault → List ℕ
name_of it = or_found it.asked it.found.items

pub record Tells (fault : LinkFault) (index : Option ℕ) (name : List ℕ) (it : ObjectFault) : Type 0 where
  pub is_fault : it.fault ≡ fault
  pub is_index : it.index ≡ index
  pub is_name : name_of it ≡ name

-- Of a map it is the name that was asked for; of others those that `link` tells.
abbrev pub count_name : LinkFault → List ℕ → List ℕ → List ℕ
count_name (link.Map at fault) text found = map_in text
count_name fault text found = found

-- Of one of the programs in turn it is that one's name; that memory ran out is no fault of a program.
abbrev pub turn_at : List (List ℕ) → ℕ → List ℕ → List ℕ
turn_at turns which found = if nat_lt which (length turns) then name_in (get_or turns which []) else found

abbrev pub turn_name : LinkFault → List (List ℕ) → ℕ → List ℕ → List ℕ
turn_name link.Memory turns which found = found
turn_name fault turns which found = turn_at turns which found

-- There are programs in turn, and they can't be called so.
abbrev pub LacksTurns : List ℕ → List ℕ → List (List ℕ) → TurnFault → Type 0
LacksTurns object section [] why = ⊥
LacksTurns object section (turn ∷ turns) why = IsTurnFault object section (turn ∷ turns) why

pub data IsOwnFault (target : Target) (file : List ℕ) (it : ObjectFault) : Type 0 where
  Uncounted : (why : CountFault) → IsCountFault file target.section.now (texts target.counts.now) why
      → Tells why.fault None (count_name why.fault (get_or (texts target.counts.now) why.which []) (fault_names file [] why.fault)) it
      → IsOwnFault target file it
  Unturned : (counted : List ℕ) → IsCounted file target.section.now (texts target.counts.now) counted
      → (why : TurnFault) → LacksTurns counted target.section.now (texts target.turns.now) why
      → Tells why.fault None (turn_name why.fault (texts target.turns.now) why.which (fault_names counted target.section.now why.fault)) it
      → IsOwnFault target file it

-- Others aren't joined: the fault is one of the object to which they are, or of one of them.
abbrev pub LacksOthers : List ℕ → List (List ℕ) → List ℕ → Bool → ChainFault → Type 0
LacksOthers own [] section as_compiled told = ⊥
LacksOthers own (other ∷ others) section as_compiled told = IsChainFault own (other ∷ others) section as_compiled told

abbrev pub joined_fault : JoinFault → LinkFault
joined_fault (First fault) = fault
joined_fault (Second fault) = fault

abbrev pub joined_index : JoinFault → ℕ → Option ℕ
joined_index (First fault) index = None
joined_index (Second fault) index = Some index

pub data IsGatherFault (target : Target) (file : List ℕ) (it : ObjectFault) : Type 0 where
  OfOwn : IsOwnFault target file it → IsGatherFault target file it
  OfStubs : (own : List ℕ) → IsOwn target file own → (fault : LinkFault) → stubs_of target ≡ Err fault
      → Tells fault None (fault_names own target.section.now fault) it → IsGatherFault target file it
  OfOthers : (own : List ℕ) → IsOwn target file own → (stubs : List Stub) → stubs_of target ≡ Ok stubs
      → (told : ChainFault) → LacksOthers own (contents target.with.now) target.section.now target.as_compiled told
      → Tells (joined_fault told.fault) (joined_index told.fault told.index) told.names.items it → IsGatherFault target file it

pub data IsObjectFault (target : Target) (file : List ℕ) (it : ObjectFault) : Type 0 where
  Ungathered : IsGatherFault target file it → IsObjectFault target file it
  Unlinked : (sources : Sources) → Gathers target file sources → (fault : LinkFault) → IsLinkRefusal (asked_of target sources) fault
      → Tells fault None (fault_names (object_of sources) target.section.now fault) it → IsObjectFault target file it

-- What linking comes to.
abbrev pub Links : Target → List ℕ → Result LinkedObject ObjectFault → Type 0
Links target file (Ok linked) = LinksTo target file linked
Links target file (Err it) = IsObjectFault target file it

-- Objects with functions may answer a helper or a symbol that there isn't, and keep maps that the machine doesn't have.
abbrev pub is_answerable : LinkFault → Bool
is_answerable (link.Helper slot helper source others) = true
is_answerable (link.Undefined slot count places) = true
is_answerable (link.Map at fault) = true
is_answerable link.TooManyMaps = true
is_answerable _ = false

abbrev pub has_answerable : Result LinkedObject ObjectFault → Bool
has_answerable (Ok linked) = false
has_answerable (Err it) = is_answerable it.fault

pub record LacksFunctions (target : Target) (file : List ℕ) (lacks : Bool) : Type 0 where
  pub linking : Result LinkedObject ObjectFault
  pub links : Links target file linking
  pub told : lacks ≡ has_answerable linking

-- The text of a map table names none.
abbrev pub IsMapsFault : Option (Bor (List ℕ)) → MapFault → Type 0
IsMapsFault None fault = ⊥
IsMapsFault (Some text) fault = IsListFault text.now fault

-- Maps are out of their limits: those of an object, or those that are named.
abbrev pub HasMapsFault : SourceKind → Target → List ℕ → MapFault → Type 0
HasMapsFault kind.Object target file fault = (linked : LinkedObject) × LinksTo target file linked × IsFirstBadMap linked.program.shapes.items fault
HasMapsFault _ target file fault = IsMapsFault target.maps fault

-- Each comes where those before don't.
abbrev pub IsTargetFault : Target → List ℕ → TargetFault → Type 0
IsTargetFault target file (why.Object it) = (target.kind ≡ kind.Object) × IsObjectFault target file it
IsTargetFault target file (why.Maps fault) = HasMapsFault target.kind target file fault
IsTargetFault target file (why.Listing fault) =
    (target.kind ≡ kind.Listing) × (maps : List MapShape) × AreNamedMaps target.maps maps × IsFaultOf file fault
IsTargetFault target file (why.Program fault) = (object : Option LinkedObject) × (words : List ℕ) × (maps : List MapShape)
    × Holds target.kind target file object words maps × IsRefused words maps fault
