-- Host lists and host maps.
use Rattle.std.specs.Prelude.{◌≡◌, ℕ, List, [], ◌∷◌, Bool, ◌==◌, if◌then◌else◌, nat_lt, length, map, Result, Ok, Err}
use Rattle.std.specs.List.{position_or_len, before_first, after_first}
use Rattle.fnc_journal.specs.declared.limits.TheConstants.{LONGEST_NAME, MOST_HOSTS}
use Rattle.fnc_journal.specs.declared.names.Pair.{Pair}
use Rattle.fnc_hosts.specs.declared.hosts.HostFault.{HostFault}
use Rattle.fnc_hosts.specs.Entries.{Entry, entries, separates_list, separates_map}

-- an item before others, unless one of them has a fault
abbrev pub before : {X : Type 0} → X → Result (List X) HostFault → Result (List X) HostFault
before x (Ok xs) = Ok (x ∷ xs)
before x (Err fault) = Err fault

-- all items, or the first fault
abbrev pub together : {X : Type 0} → List (Result X HostFault) → Result (List X) HostFault
together [] = Ok []
together (Ok x ∷ rest) = before x (together rest)
together (Err fault ∷ rest) = Err fault

-- 256 entries at most, each read by a function
abbrev pub each_entry : {X : Type 0} → (Entry → Result X HostFault) → List Entry → Result (List X) HostFault
each_entry read es = if nat_lt MOST_HOSTS (length es) then Err HostFault.TooMany else together (map read es)

-- an entry of a list is a name of at most 255 bytes
abbrev pub host : Entry → Result (List ℕ) HostFault
host e = if nat_lt LONGEST_NAME (length e.text) then Err (HostFault.LongName e.place) else Ok e.text

-- the names that a host list has, or its first fault
abbrev pub host_list : List ℕ → Result (List (List ℕ)) HostFault
host_list text = each_entry host (entries separates_list text)

-- the byte after the name of an entry of a map
abbrev pub is_colon : ℕ → Bool
is_colon b = b == 58

-- a name of 1 to 255 bytes and a port of at least one
abbrev pub named : ℕ → List ℕ → List ℕ → Result Pair HostFault
named place name port =
    if length name == 0 then Err (HostFault.EmptyName place)
    else (if length port == 0 then Err (HostFault.EmptyPort place)
    else (if nat_lt LONGEST_NAME (length name) then Err (HostFault.LongName place)
    else Ok (record { name = name; value = port })))

-- an entry of a map is cut at its first colon
abbrev pub host_pair : Entry → Result Pair HostFault
host_pair e =
    if position_or_len is_colon e.text == length e.text then Err (HostFault.NoColon e.place)
    else named e.place (before_first is_colon e.text) (after_first is_colon e.text)

-- the names and ports that a host map has, or its first fault
abbrev pub host_map : List ℕ → Result (List Pair) HostFault
host_map text = each_entry host_pair (entries separates_map text)

-- a fault is that of reading, unless it is want of memory
abbrev pub Fails : {X : Type 0} → HostFault → Result X HostFault → Type 0
Fails HostFault.NoMemory read = Unit {0}
Fails fault read = read ≡ Err fault

-- an answer is what reading gives, unless memory was refused
abbrev pub Gives : {X : Type 0} → Result X HostFault → Result X HostFault → Type 0
Gives (Ok x) read = read ≡ Ok x
Gives (Err fault) read = Fails fault read
