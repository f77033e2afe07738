use Rattle.std.proofs.Common.{◌≡◌, ◌∙◌, ℕ, Bool, List, ap, inr, refl, subst, sym, true}
use Rattle.std.specs.Prelude.{Option, Some}
use Rattle.suite_files.proofs.Shelving.{file-at, starts-at}
use Rattle.suite_files.specs.Refused.{IsNumberedFault, IsPacketFault, LacksPacket}
use Rattle.suite_files.specs.Replaced.{capture_name, packet_number}
use Rattle.suite_files.specs.declared.fault.NamedFault.TheVariants.{NoPacket}
use Rattle.suite_files.specs.declared.place.Place.{Place}
use Rattle.suite_files.specs.declared.fault.PutFault.TheVariants.{Named}
use Rattle.input_texts.specs.Heads.{head_of}
use Rattle.input_texts.specs.Options.{is_empty}
use Rattle.suite_files.specs.Shelves.{IsFile, IsShelf, path_of, paths_on, with_path}
use Rattle.suite_files.proofs.put.put_packet.Goals as goal

-- a capture that has no such packet
no-packet : (bytes_at : List ℕ → Option (List ℕ)) (place : Place) (paths : List (List ℕ)) (piece said : List ℕ) (number : ℕ) → is_empty piece ≡ true
    → packet_number said ≡ Some number → LacksPacket bytes_at place said number → IsPacketFault (is_empty piece) bytes_at place paths said (Named NoPacket)
no-packet bytes_at place paths piece said number empty numbered lacks =
    subst (λ (b : Bool). IsPacketFault b bytes_at place paths said (Named NoPacket)) (sym empty)
    (subst (λ (n : Option ℕ). IsNumberedFault bytes_at place paths said n (Named NoPacket)) (sym numbered) (inr (refl, lacks)))

pub packet-requires : goal.packet-requires
packet-requires g c =
    starts-at (g.F.Opener.bytes_at c.args.files.now) c.shelve.new.shelf.items c.in-Ok.at c.index.result.now c.in-Ok.ensures.shelf.read
    c.in-Ok.ensures.at.inside c.index.ensures

pub returns-in-Ok-memory_put-clause-ok : goal.returns-in-Ok-memory_put-clause-ok
returns-in-Ok-memory_put-clause-ok g c =
    let bytes_at = g.F.Opener.bytes_at c.args.files.now in
    let one = c.index.result.now in
    let file =
    file-at bytes_at c.args.place.now c.capture_name-name.result.now c.shelve.new.shelf.items c.in-Ok.at one c.in-Ok.ensures.at c.index.ensures in
    record {
      empty = sym c.if-not-is_empty.ensures;
      number = c.in-Some.number;
      is_number = ap packet_number (sym c.value_of-said.ensures) ∙ sym c.in-Some.ensures;
      capture = one.bytes.items;
      file =
          subst (λ (name : List ℕ). IsFile bytes_at c.args.place.now name one.bytes.items)
          (c.capture_name-name.ensures ∙ ap capture_name c.value_of-said.ensures) file;
      packet = c.in-Some-packet.bytes.now;
      is_packet = sym c.in-Some-packet.ensures;
      is_put = c.in-Ok-memory_put.ensures;
    }

pub returns-in-None-clause-err : goal.returns-in-None-clause-err
returns-in-None-clause-err g c =
    let bytes_at = g.F.Opener.bytes_at c.args.files.now in
    let one = c.index.result.now in
    let file =
    file-at bytes_at c.args.place.now c.capture_name-name.result.now c.shelve.new.shelf.items c.in-Ok.at one c.in-Ok.ensures.at c.index.ensures in
    no-packet bytes_at c.args.place.now (paths_on c.args.shelf.now.items) c.args.piece.now (head_of c.args.piece.now).value c.in-Some.number (sym c.if-not-is_empty.ensures)
    (ap packet_number (sym c.value_of-said.ensures) ∙ sym c.in-Some.ensures)
    (record {
      capture = one.bytes.items;
      file =
          subst (λ (name : List ℕ). IsFile bytes_at c.args.place.now name one.bytes.items)
          (c.capture_name-name.ensures ∙ ap capture_name c.value_of-said.ensures) file;
      none = sym c.in-None.ensures;
    })

pub returns-in-Ok-memory_put-clause-shelf : goal.returns-in-Ok-memory_put-clause-shelf
returns-in-Ok-memory_put-clause-shelf g c =
    let bytes_at = g.F.Opener.bytes_at c.args.files.now in
    subst
    (λ (name : List ℕ). IsShelf bytes_at (with_path (paths_on c.args.shelf.now.items) (path_of c.args.place.now name)) c.shelve.new.shelf.items)
    (c.capture_name-name.ensures ∙ ap capture_name c.value_of-said.ensures) c.in-Ok.ensures.shelf
