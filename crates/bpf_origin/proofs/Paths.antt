-- Runs that agree on what their steps read go along one path.
use Rattle.std.proofs.Common.{◌≡◌, Bool, List, [], ◌∷◌, ◌++◌, flat_map, sym, ap, subst, ◌∙◌, inl, inr}
use Rattle.std.proofs.lemmas.Grind.{flat_map-append}
use Rattle.bpf_journal.specs.Histories.{Record}
use Rattle.bpf_machine.specs.Moves.{Leads, overwritten}
use Rattle.bpf_steps.specs.State.{State}
use Rattle.bpf_machine.specs.declared.moves.Move.{Move}
use Rattle.bpf_machine.specs.declared.moves.Move.TheVariants as move
use Rattle.bpf_origin.specs.Laws.{AgreeOn, StandAlike}
use Rattle.bpf_origin.specs.Meaning.{AgreeingRunsGoAlike, GoAlike}
use Rattle.bpf_origin.specs.Places.{places_of}
use Rattle.bpf_origin.specs.Reads.{bases, conditions, reads}
use Rattle.bpf_origin.specs.Wanted.{is_in}
use Rattle.bpf_origin.specs.Writes.{written}
use Rattle.bpf_origin.specs.declared.place.Part.{Part}
use Rattle.bpf_origin.proofs.Agreeing.{in_first, in_second}
use Rattle.bpf_origin.proofs.Alike.{law_goes, law_writes}
use Rattle.bpf_origin.proofs.Meaning.{in_either}

-- what agrees on parts agrees on the first of them, and on the second
first_of : (ps qs : List Part) (x z : State) → AgreeOn (ps ++ qs) x z → AgreeOn ps x z
first_of ps qs x z agree =
    λ p there. agree p (ap (is_in p) (flat_map-append places_of ps qs) ∙ in_first p (flat_map places_of ps) (flat_map places_of qs) there)

second_of : (ps qs : List Part) (x z : State) → AgreeOn (ps ++ qs) x z → AgreeOn qs x z
second_of ps qs x z agree =
    λ p there. agree p (ap (is_in p) (flat_map-append places_of ps qs) ∙ in_second p (flat_map places_of ps) (flat_map places_of qs) there)

both_of : (ps qs : List Part) (x z : State) → AgreeOn ps x z → AgreeOn qs x z → AgreeOn (ps ++ qs) x z
both_of ps qs x z first second =
    λ p there. elim (in_either p (flat_map places_of ps) (flat_map places_of qs) (sym (ap (is_in p) (flat_map-append places_of ps qs)) ∙ there)) [
      | inl one ↦ first p one
      | inr two ↦ second p two
    ]

-- the first component says where the later states stand
stand_of : (addresses : Bool) (h : List Record) (y : State) (g : List Record) (w : State) → GoAlike addresses h y g w → StandAlike y w
stand_of addresses [] y [] w alike = alike
stand_of addresses (r ∷ h) y (s ∷ g) w alike = alike.0
stand_of addresses [] y (s ∷ g) w alike = absurd alike
stand_of addresses (r ∷ h) y [] w alike = absurd alike

-- a step of each run
stepped : (addresses : Bool) (r s : Record) (h g : List Record) (y w : State) → r.move ≡ move.Step → s.move ≡ move.Step
    → Leads r.before r.move y → Leads s.before s.move w
    → AgreeOn (reads r.before move.Step ++ (bases r.before move.Step ++ conditions r.before move.Step)) r.before s.before
    → GoAlike addresses h r.before g s.before → GoAlike addresses (r ∷ h) y (s ∷ g) w
stepped addresses r s h g y w first second to too agree alike =
    let step : Leads r.before move.Step y = subst (λ (m : Move). Leads r.before m y) first to in
    let other : Leads s.before move.Step w = subst (λ (m : Move). Leads s.before m w) second too in
    let stand = stand_of addresses h r.before g s.before alike in
    let rs = reads r.before move.Step in
    let bs = bases r.before move.Step in
    let cs = conditions r.before move.Step in
    let rest : AgreeOn (bs ++ cs) r.before s.before = second_of rs (bs ++ cs) r.before s.before agree in
    let on_bases : AgreeOn bs r.before s.before = first_of bs cs r.before s.before rest in
    let all : AgreeOn (rs ++ bs) r.before s.before = both_of rs bs r.before s.before (first_of rs (bs ++ cs) r.before s.before agree) on_bases in
    let goes = law_goes r.before s.before y w step other stand agree in
    let writes = law_writes r.before s.before move.Step y w step other stand all in (
      goes.0,
      second ∙ sym first,
      ap (λ (m : Move). written y (overwritten r.before m)) first ∙ writes.places ∙ ap (λ (m : Move). written w (overwritten s.before m)) (sym first),
      λ off. subst (λ (m : Move). AgreeOn (bases r.before m) r.before s.before) (sym first) on_bases,
      alike,
    )

pub law_paths : AgreeingRunsGoAlike
law_paths addresses [] y [] w run other alike = alike
law_paths addresses (r ∷ h) y (s ∷ g) w run other alike =
    stepped addresses r s h g y w alike.0 alike.1 run.0 other.0 alike.2 (law_paths addresses h r.before g s.before run.1 other.1 alike.3)
law_paths addresses [] y (s ∷ g) w run other alike = absurd alike
law_paths addresses (r ∷ h) y [] w run other alike = absurd alike
