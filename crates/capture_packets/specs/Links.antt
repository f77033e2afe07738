-- What packets of a capture begin with where that isn't Ethernet, by the link type, in libpcap's words.
use Rattle.std.specs.Prelude.{ℕ, ◌==◌, if◌then◌else◌, List, codes}

abbrev pub link_name : ℕ → List ℕ
link_name link =
    if link == 0 then codes "BSD loopback"
    else if link == 9 then codes "PPP"
    else if link == 101 then codes "Raw IP"
    else if link == 105 then codes "802.11"
    else if link == 108 then codes "OpenBSD loopback"
    else if link == 113 then codes "Linux cooked v1"
    else if link == 127 then codes "802.11 plus radiotap header"
    else if link == 228 then codes "Raw IPv4"
    else if link == 229 then codes "Raw IPv6"
    else if link == 239 then codes "Linux netfilter log messages"
    else if link == 253 then codes "Linux netlink"
    else if link == 276 then codes "Linux cooked v2"
    else codes "something else"
