-- What a capture's header tells besides the order of its numbers, and that of a packet besides how many bytes it has there (pcap's own format). bpfdb's own choice.
use Rattle.std.specs.Prelude.{ℕ, ◌+◌, ◌*◌, Bool, nat_lt, if◌then◌else◌, is_some, List, [], ◌∷◌, drop, get_or, length, Option, Some, None}
use Rattle.input_texts.specs.Captures.{begins, number_in, order_of, rest}
use Rattle.input_texts.specs.declared.capture.Order.{Order}
use Rattle.input_texts.specs.declared.capture.Order.TheVariants.{Little, Big}

abbrev pub is_capture : List ℕ → Bool
is_capture file = is_some (order_of file)

-- One in pcapng begins otherwise.
abbrev pub is_pcapng : List ℕ → Bool
is_pcapng file = begins file (0x0a ∷ 0x0d ∷ 0x0d ∷ 0x0a ∷ [])

-- What packets begin with is the lower half of the header's last number: 1 is Ethernet.
abbrev pub link_by : Option Order → List ℕ → ℕ
link_by (Some Little) file = get_or file 20 0 + 256 * get_or file 21 0
link_by (Some Big) file = get_or file 23 0 + 256 * get_or file 22 0
link_by None file = 0

abbrev pub link_type : List ℕ → ℕ
link_type file = link_by (order_of file) file

abbrev pub ethernet : ℕ
ethernet = 1

-- How many bytes a packet had stands in the 13th to 16th byte of its own header.
abbrev pub sent_by : Option Order → List ℕ → ℕ
sent_by (Some o) s = if nat_lt (length s) 16 then 0 else number_in o (get_or s 12 0) (get_or s 13 0) (get_or s 14 0) (get_or s 15 0)
sent_by None s = 0

-- What follows so many packets of a capture.
abbrev pub behind_by : Option Order → List ℕ → ℕ → List ℕ
behind_by (Some o) file count = rest o (drop 24 file) count
behind_by None file count = []

abbrev pub behind : List ℕ → ℕ → List ℕ
behind file count = behind_by (order_of file) file count
