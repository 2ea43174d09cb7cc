-- An action takes no longer than a day.
use Rattle.std.proofs.Common.{true, ◌≡◌, ◌≤◌}
use Rattle.std.proofs.lemmas.Bool.{leb-true}
use Rattle.fnc_journal.specs.declared.limits.TheConstants.{DAY}
use Rattle.fnc_journal.specs.declared.definition.Allowed.{Allowed}
use Rattle.fnc_journal.specs.declared.definition.Definition.{Definition}
use Rattle.fnc_journal.specs.declared.entry.Kind.{Kind}
use Rattle.fnc_journal.specs.Bounds.{IsBounded, is_allowed}
use Rattle.fnc_journal.specs.Device.{allowed}
use Rattle.fnc_journal.proofs.Lawfulness.{and-left, and-right}

short : (a : Allowed) → is_allowed a ≡ true → a.time ≤ DAY
short a e = leb-true a.time DAY (and-right _ _ (and-left _ _ (and-left _ _ e)))

pub allowed-short : (d : Definition) (kind : Kind) → IsBounded d → (allowed d kind).time ≤ DAY
allowed-short d Kind.On b = short d.on b.on
allowed-short d Kind.Off b = short d.off b.off_allowed
allowed-short d Kind.Reboot b = short d.reboot b.reboot
allowed-short d Kind.List b = short d.list b.list
allowed-short d Kind.Status b = short d.status b.status
