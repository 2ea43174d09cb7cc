-- Names of devices, clients, agents and nodes.
use Rattle.std.specs.Prelude.{ℕ, List, Bool, not, ◌&&◌, ◌==◌, nat_le, length}
use Rattle.std.specs.List.{list_all}
use Rattle.fnc_journal.specs.declared.limits.TheConstants.{LONGEST_NAME}

-- a byte that may stand in a name: no control byte, no space, no comma
abbrev pub is_name_byte : ℕ → Bool
is_name_byte b = nat_le 0x21 b && not (b == 0x7F) && not (b == 44)

-- whether a text is a name
abbrev pub is_name : List ℕ → Bool
is_name text = nat_le 1 (length text) && nat_le (length text) LONGEST_NAME && list_all is_name_byte text
