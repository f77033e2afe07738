-- The kinds of maps that are no arrays, by their numbers (enum bpf_map_type of the kernel's <linux/bpf.h>), as they are refused.
use Rattle.std.specs.Prelude.{ℕ, ◌==◌, if◌then◌else◌, List, codes}

-- The text of the kinds from 23 on.
abbrev pub rare_text : ℕ → List ℕ
rare_text kind =
    if kind == 23 then codes "map is a stack, and no array"
    else (if kind == 24 then codes "map is a socket storage, and no array"
    else (if kind == 25 then codes "map is a device hash, and no array"
    else (if kind == 26 then codes "map is a struct_ops, and no array"
    else (if kind == 27 then codes "map is a ring buffer, and no array"
    else (if kind == 28 then codes "map is an inode storage, and no array"
    else (if kind == 29 then codes "map is a task storage, and no array"
    else (if kind == 30 then codes "map is a Bloom filter, and no array"
    else (if kind == 31 then codes "map is a user ring buffer, and no array"
    else (if kind == 32 then codes "map is a cgroup local storage, and no array"
    else (if kind == 33 then codes "map is an arena, and no array"
    else codes "map is of unknown kind, and no array"))))))))))

-- The text of the kinds from 12 on.
abbrev pub other_text : ℕ → List ℕ
other_text kind =
    if kind == 12 then codes "map is an array of maps, and no array of values"
    else (if kind == 13 then codes "map is a hash of maps, and no array"
    else (if kind == 14 then codes "map is a device map, and no array"
    else (if kind == 15 then codes "map is a socket map, and no array"
    else (if kind == 16 then codes "map is a CPU map, and no array"
    else (if kind == 17 then codes "map is an XSK map, and no array"
    else (if kind == 18 then codes "map is a socket hash, and no array"
    else (if kind == 19 then codes "map is a cgroup storage, and no array"
    else (if kind == 20 then codes "map is a reuseport socket array, and no array of values"
    else (if kind == 21 then codes "map is a per-CPU cgroup storage, and no array"
    else (if kind == 22 then codes "map is a queue, and no array"
    else rare_text kind))))))))))

-- That a map is of a kind, as it is refused for it.
abbrev pub kind_text : ℕ → List ℕ
kind_text kind =
    if kind == 0 then codes "map has no kind, and is no array"
    else (if kind == 1 then codes "map is a hash, and no array"
    else (if kind == 3 then codes "map is a program array, and no array of values"
    else (if kind == 4 then codes "map is a perf event array, and no array of values"
    else (if kind == 5 then codes "map is a per-CPU hash, and no array"
    else (if kind == 7 then codes "map is a stack trace, and no array"
    else (if kind == 8 then codes "map is a cgroup array, and no array of values"
    else (if kind == 9 then codes "map is an LRU hash, and no array"
    else (if kind == 10 then codes "map is a per-CPU LRU hash, and no array"
    else (if kind == 11 then codes "map is an LPM trie, and no array"
    else other_text kind)))))))))
