-- What is read of an entry before it is let go: how many bytes it has, and its tag.
use Rattle.bpf_entries.specs.Keeping.{Kept}
use Rattle.bpf_entries.specs.Texts.{kind, tag}
use Rattle.bpf_entries.specs.Weights.{weight}
use Rattle.bpf_ring.specs.declared.keeper.Head.{Head}

abbrev pub head_of : Kept → Head
head_of k = record { len = weight k.0; tag = tag (kind k.0) k.1 }
