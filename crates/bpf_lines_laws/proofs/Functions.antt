-- An object whose section is `.text` has no code but that.
use Rattle.std.proofs.Common.{◌≡◌, ℕ, ◌+◌, ◌==◌, nat_le, Bool, true, false, List, Result, Ok, Err, length, refl, sym, ap, subst, ◌∙◌, arith}
use Rattle.std.specs.Prelude.{codes, if◌then◌else◌}
use Rattle.std.proofs.lemmas.Bool.Decides.{nat_tests}
use Rattle.bpf_isa.specs.Checker.{most_slots}
use Rattle.bpf_link.specs.declared.fault.LinkFault.{LinkFault}
use Rattle.bpf_link.specs.declared.fault.LinkFault.TheVariants as link
use Rattle.bpf_link.specs.declared.layout.SymbolEntry.{SymbolEntry}
use Rattle.bpf_link.specs.declared.parts.Part.{Part}
use Rattle.bpf_link.specs.declared.plan.Plan.{Plan}
use Rattle.bpf_link.specs.declared.sections.Found.{Found}
use Rattle.bpf_link.specs.declared.sections.Found.TheVariants.{Nothing, Only, Several}
use Rattle.bpf_link.specs.declared.sections.Roles.{Roles}
use Rattle.bpf_link.specs.Links.{planned}
use Rattle.bpf_link.specs.Objects.{Elf, opened, provided}
use Rattle.bpf_link.specs.Parts.{Sides, slots_in}
use Rattle.bpf_link.specs.Plans.{after, chosen_in, definitions_in, is_closed, maps_in, names_in, no_part, part_in, parts_in, plan_of, refers_below, symbols_of, text_in}
use Rattle.bpf_link.specs.Sections.{found, is_text, roles_in}
use Rattle.bpf_link.proofs.Inversions.{after_ok, ok_same, provided_ok}
use Rattle.bpf_link_laws.proofs.Inversions.{plan_is}

-- what `.text` of a plan was found as
record IsBehind (object : Elf) (roles : Roles) (parts : Sides) : Type 0 where
  symbols : List SymbolEntry
  text : text_in object roles.symbols symbols parts.code roles.text ≡ Ok parts.text

abbrev with_text : Part → Part → Result Sides LinkFault
with_text code text = provided (nat_le (slots_in code + slots_in text) most_slots) link.TooLong (Ok (record { code = code; text = text }))

abbrev with_code : Elf → Roles → List SymbolEntry → Part → Result Sides LinkFault
with_code object roles symbols code = provided (is_closed code.slots) link.RunsOff (after (text_in object roles.symbols symbols code roles.text) (with_text code))

behind : (object : Elf) (roles : Roles) (symbols : List SymbolEntry) (chosen : ℕ) (parts : Sides) → parts_in object roles symbols chosen ≡ Ok parts → IsBehind object roles parts
behind object roles symbols chosen parts e =
    let a = after_ok (part_in object roles.symbols chosen) (with_code object roles symbols) parts e in
    let b = provided_ok (is_closed a.0.slots) link.RunsOff (after (text_in object roles.symbols symbols a.0 roles.text) (with_text a.0)) parts a.2 in
    let c = after_ok (text_in object roles.symbols symbols a.0 roles.text) (with_text a.0) parts b.1 in
    let d = provided_ok (nat_le (slots_in a.0 + slots_in c.0) most_slots) link.TooLong (Ok (record { code = a.0; text = c.0 })) parts c.2 in
    subst (IsBehind object roles) (ok_same _ parts d.1) (record { symbols = symbols; text = c.1 })

abbrev made : Elf → Roles → List SymbolEntry → ℕ → Sides → Plan
made object roles symbols maps parts = record {
  object = object;
  table = roles.symbols;
  symbols = symbols;
  names = names_in object roles.symbols;
  maps = maps;
  definitions = definitions_in object roles.maps;
  parts = parts;
}

abbrev with_parts : Elf → Roles → List SymbolEntry → ℕ → Sides → Result Plan LinkFault
with_parts object roles symbols maps parts = Ok (made object roles symbols maps parts)

abbrev with_chosen : Elf → Roles → List SymbolEntry → ℕ → ℕ → Result Plan LinkFault
with_chosen object roles symbols maps chosen = after (parts_in object roles symbols chosen) (with_parts object roles symbols maps)

abbrev with_maps : Elf → Roles → Bool → List SymbolEntry → ℕ → Result Plan LinkFault
with_maps object roles unnamed symbols maps = after (chosen_in roles.chosen roles.text unnamed) (with_chosen object roles symbols maps)

abbrev with_symbols : Elf → Roles → Bool → List SymbolEntry → Result Plan LinkFault
with_symbols object roles unnamed symbols = after (maps_in roles.maps) (with_maps object roles unnamed symbols)

abbrev with_object : List ℕ → Elf → Result Plan LinkFault
with_object name object = plan_of object (roles_in object name object.sections) (length name == 0)

plan_behind : (bytes name : List ℕ) (plan : Plan) → planned bytes name ≡ Ok plan → IsBehind plan.object (roles_in plan.object name plan.object.sections) plan.parts
plan_behind bytes name plan e =
    let unnamed = length name == 0 in
    let a = provided_ok (nat_le (length name) 255) link.LongName (after (opened bytes) (with_object name)) plan e in
    let b = after_ok (opened bytes) (with_object name) plan a.1 in
    let object = b.0 in
    let roles = roles_in object name object.sections in
    let c = after_ok (symbols_of object roles.symbols) (with_symbols object roles unnamed) plan b.2 in
    let d = after_ok (maps_in roles.maps) (with_maps object roles unnamed c.0) plan c.2 in
    let f = after_ok (chosen_in roles.chosen roles.text unnamed) (with_chosen object roles c.0 d.0) plan d.2 in
    let g = after_ok (parts_in object roles c.0 f.0) (with_parts object roles c.0 d.0) plan f.2 in
    subst (λ (plan : Plan). IsBehind plan.object (roles_in plan.object name plan.object.sections) plan.parts) (ok_same _ plan g.2) (behind object roles c.0 f.0 g.0 g.1)

-- `.text` itself is the section that is asked for
only_chosen : (f : Found) (c : ℕ) → chosen_in f f false ≡ Ok c → f ≡ Only c
only_chosen (Only i) c e = ap Only (ok_same i c e)
only_chosen Nothing c e = absurd (clash e)
  where
    clash : ◌≡◌ {A = Result ℕ LinkFault} (Err link.NoSection) (Ok c) → ⊥
    clash e = cc
only_chosen Several c e = absurd (clash e)
  where
    clash : ◌≡◌ {A = Result ℕ LinkFault} (Err link.ManySections) (Ok c) → ⊥
    clash e = cc

is_itself : (a b : ℕ) → a ≡ b → (a == b) ≡ true
is_itself a b e = grind (arith, nat_tests)

none_behind : (object : Elf) (table : Found) (symbols : List SymbolEntry) (code text : Part) → text_in object table symbols code (Only code.section) ≡ Ok text → slots_in text ≡ 0
none_behind object table symbols code text e =
    let other : Result Part LinkFault = if refers_below symbols code.relocations 10 code.section (length code.relocations) then part_in object table code.section else Ok no_part in
    let none : ◌≡◌ {A = Result Part LinkFault} (Ok no_part) (Ok text) = sym (ap (λ b. if b then Ok no_part else other) (is_itself code.section code.section refl)) ∙ e in
    subst (λ part. slots_in part ≡ 0) (ok_same no_part text none) refl

pub functions_alone : (bytes : List ℕ) (plan : Plan) → planned bytes (codes ".text") ≡ Ok plan → slots_in plan.parts.text ≡ 0
functions_alone bytes plan e =
    let is = plan_is bytes (codes ".text") plan e in
    let it = plan_behind bytes (codes ".text") plan e in
    let text = found (is_text plan.object) plan.object.sections in
    let only : text ≡ Only plan.parts.code.section = only_chosen text plan.parts.code.section is.chosen in
    none_behind plan.object (roles_in plan.object (codes ".text") plan.object.sections).symbols it.symbols plan.parts.code plan.parts.text
    (sym (ap (text_in plan.object (roles_in plan.object (codes ".text") plan.object.sections).symbols it.symbols plan.parts.code) only) ∙ it.text)
