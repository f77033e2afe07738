use Rattle.std.proofs.Common.{◌≡◌, ◌∙◌, ℕ, List, ap}
use Rattle.bpf_turns.specs.Ext.{ext_of}
use Rattle.bpf_turns.proofs.ext.moved_lists.Goals as goal

-- the same section of the same lists
same : (moved a b f g l m c d : List ℕ) → moved ≡ ext_of a f l c → a ≡ b → f ≡ g → l ≡ m → c ≡ d → moved ≡ ext_of b g m d
same moved a b f g l m c d told of functions lines fields =
    told ∙ (ap (λ x. ext_of x f l c) of ∙ (ap (λ x. ext_of b x l c) functions ∙ (ap (λ x. ext_of b g x c) lines ∙ ap (λ x. ext_of b g m x) fields)))

pub returns-in-Ok-ext_of-clause-ok : goal.returns-in-Ok-ext_of-clause-ok
returns-in-Ok-ext_of-clause-ok c = record {
  name = c.args.name;
  is_name = c.requires.name;
  functions = c.in-Ok.functions.items;
  are_functions = c.in-Ok.ensures.ok;
  lines = c.in-Ok-moved_part.lines.items;
  are_lines = c.in-Ok-moved_part.ensures.ok;
  fields = c.in-Ok-moved_part-2.fields.items;
  are_fields = c.in-Ok-moved_part-2.ensures.ok;
  moved_is =
      same c.in-Ok-ext_of.moved.items c.args.ext.now _ c.as_slice.result.now _ c.as_slice-2.result.now _ c.as_slice-3.result.now _ c.in-Ok-ext_of.ensures.ok
      c.requires.ext c.as_slice.ensures.value c.as_slice-2.ensures.value c.as_slice-3.ensures.value;
}
