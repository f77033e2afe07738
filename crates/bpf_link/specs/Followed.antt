-- Where control goes in the code that comes out.
use Rattle.std.specs.Prelude.{◌≡◌, ◌<◌, ℕ, true, List, length}
use Rattle.bpf_link.specs.declared.linker.Linked.{Linked}
use Rattle.bpf_link.specs.declared.stubs.Stub.{Stub}
use Rattle.bpf_link.specs.Programs.{IsLinked}
use Rattle.bpf_link.specs.Reach.{is_reached, leads}

-- From a slot that is reached the code of a linked program leads to no other slots than such. (Before calls of helpers are answered, which lead nowhere else.)
abbrev pub ReachedLeadToReached : Type 0
ReachedLeadToReached =
    (object name entry : List ℕ) (stubs : List Stub) (program : Linked) (linked : IsLinked object name entry stubs program) (slot next : ℕ)
    → is_reached linked.begun.reach slot ≡ true → leads linked.made.laid.code slot next ≡ true → next < length linked.begun.reach
    → is_reached linked.begun.reach next ≡ true
