-- The pieces of a list of actions, case by case.
use Rattle.std.proofs.Common.{◌≡◌, Bool, true, false, ◌&&◌, ◌||◌, cond, [], ◌++◌, codes, refl}
use Rattle.fnc_journal_text.specs.Spelled.{actions_text}

pub actions-pieces : (on off reboot list status : Bool) →
    cond on (codes "on") [] ++ (cond (on && off) (codes ",") [] ++ (cond off (codes "off") [] ++ (cond ((on || off) && reboot) (codes ",") [] ++ (cond reboot (codes "reboot") []
    ++ (cond ((on || off || reboot) && list) (codes ",") [] ++ (cond list (codes "list") [] ++ (cond ((on || off || reboot || list) && status) (codes ",") [] ++ (cond status (codes "status") [] ++ []))))))))
    ≡ actions_text (record { on = on; off = off; reboot = reboot; list = list; status = status })
actions-pieces true true true true true = refl
actions-pieces true true true true false = refl
actions-pieces true true true false true = refl
actions-pieces true true true false false = refl
actions-pieces true true false true true = refl
actions-pieces true true false true false = refl
actions-pieces true true false false true = refl
actions-pieces true true false false false = refl
actions-pieces true false true true true = refl
actions-pieces true false true true false = refl
actions-pieces true false true false true = refl
actions-pieces true false true false false = refl
actions-pieces true false false true true = refl
actions-pieces true false false true false = refl
actions-pieces true false false false true = refl
actions-pieces true false false false false = refl
actions-pieces false true true true true = refl
actions-pieces false true true true false = refl
actions-pieces false true true false true = refl
actions-pieces false true true false false = refl
actions-pieces false true false true true = refl
actions-pieces false true false true false = refl
actions-pieces false true false false true = refl
actions-pieces false true false false false = refl
actions-pieces false false true true true = refl
actions-pieces false false true true false = refl
actions-pieces false false true false true = refl
actions-pieces false false true false false = refl
actions-pieces false false false true true = refl
actions-pieces false false false true false = refl
actions-pieces false false false false true = refl
actions-pieces false false false false false = refl
