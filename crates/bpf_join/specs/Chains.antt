-- Several objects joined to one, one after another: what comes of the first ones is joined with the next one.
use Rattle.std.specs.Prelude.{◌≡◌, ◌<◌, ℕ, zero, suc, Bool, List, [], ◌∷◌, Vec, codes, get_or, length, map}
use Rattle.std.specs.declared.alloc.Global.{Global}
use Rattle.bpf_link.specs.FieldRelocations.{AreLeft}
use Rattle.bpf_link.specs.Names.{fault_names}
use Rattle.bpf_join.specs.Joined.{IsJoined, IsJoinFault}
use Rattle.bpf_join.specs.declared.chain.ChainFault.{ChainFault}
use Rattle.bpf_join.specs.declared.fault.JoinFault.{JoinFault}
use Rattle.bpf_join.specs.declared.fault.JoinFault.TheVariants.{First, Second}
use Rattle.bpf_join.specs.declared.joined.Joined.{Joined}

-- The objects behind the first one: the second, and further ones.
abbrev pub others : List ℕ → List (Vec ℕ Global) → List (List ℕ)
others second further = second ∷ map (λ other. other.items) further

-- What an object comes to with the first n of others: with none it is itself, and with one more it is what it came to before, joined with that.
abbrev pub ComesTo : List ℕ → List (List ℕ) → List ℕ → Bool → ℕ → List ℕ → Type 0
ComesTo a others section as_compiled zero bytes = bytes ≡ a
ComesTo a others section as_compiled (suc n) bytes =
    (before : List ℕ) × ComesTo a others section as_compiled n before
    × (joined : Joined) × IsJoined before (get_or others n []) section as_compiled joined × (bytes ≡ joined.bytes.items)

-- What it comes to with all of them. The relocations of fields that are counted are its own.
pub record IsChain (a : List ℕ) (others : List (List ℕ)) (section : List ℕ) (as_compiled : Bool) (joined : Joined) : Type 0 where
  pub left : AreLeft a section as_compiled joined.fields
  pub comes : ComesTo a others section as_compiled (length others) joined.bytes.items

-- The names that a fault of two objects tells, as they stand in the one whose fault it is.
abbrev pub join_names : List ℕ → List ℕ → List ℕ → JoinFault → List ℕ
join_names a b section (First fault) = fault_names a section fault
join_names a b section (Second fault) = fault_names b (codes ".text") fault

-- Why two objects aren't joined, with the names that are told.
pub record IsTold (a b section : List ℕ) (as_compiled : Bool) (told : ChainFault) : Type 0 where
  pub why : IsJoinFault a b section as_compiled told.fault
  pub names : told.names.items ≡ join_names a b section told.fault

-- Why there is none: one of them isn't joined to what comes of those before it.
pub record IsChainFault (a : List ℕ) (others : List (List ℕ)) (section : List ℕ) (as_compiled : Bool) (told : ChainFault) : Type 0 where
  pub inside : told.index < length others
  pub before : List ℕ
  pub comes : ComesTo a others section as_compiled told.index before
  pub is_told : IsTold before (get_or others told.index []) section as_compiled told
