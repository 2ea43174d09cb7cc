-- Options looked over one after another.
use Rattle.std.proofs.Common.{◌≡◌, ℕ, ◌+◌, ◌<◌, cond, List, length, get_or, take, drop, Err, refl, sym}
use Rattle.std.proofs.lemmas.List.{drop_more, take_more}
use Rattle.fnc_journal.specs.declared.names.Pair.{Pair}
use Rattle.fnc_device.specs.declared.fault.DefineFault.{DefineFault}
use Rattle.fnc_device.specs.Options.{is_given, distinct_after}

-- an option is held against those before it, and then stands before the others
pub distinct_after-drop : (os : List Pair) (i : ℕ) (o : Pair) → i < length os → o ≡ get_or os i o
    → distinct_after (take i os) (drop i os)
    ≡ cond (is_given o.name (take i os)) (Err (DefineFault.RepeatedOption o.name))
    (distinct_after (take (i + 1) os) (drop (i + 1) os))
distinct_after-drop os i o h e = rw (drop_more os i o h, take_more os i o h, sym e) refl
