use Rattle.std.proofs.Common.{◌∙◌, ap, refl, sym}
use Rattle.input_texts.specs.declared.head.Head.{Head}
use Rattle.suite_files.proofs.asked.asked_of.Goals as goal

pub returns : goal.returns
returns c = record {
  lines = sym c.if-not-are_options.ensures;
  given = c.in-Some.given;
  is_given = sym c.in_ok-given.ensures ∙ c.in-Some.is;
  listed = c.in-Some-2.listed;
  lists = rw c.in-Some-2.is at c.in_ok-listed.ensures;
  object = ap (λ (head : Head). head.value) c.head_of.ensures;
  with = refl;
  section = refl;
  entries = refl;
  stubs = c.in-Some-str_of.ensures;
  packet = sym c.in-Some-packet_in.ensures;
}
