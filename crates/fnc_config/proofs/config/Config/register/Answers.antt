use Rattle.std.proofs.Common.{◌∷◌, ◌≡◌, ◌≤◌, ◌+◌, ◌∙◌, ap, sym, length, arith}
use Rattle.fnc_journal.specs.declared.event.Event.{Event}
use Rattle.fnc_journal.specs.Known.{names_registered}
use Rattle.fnc_config.specs.Configured.{Configured, configured, without}
use Rattle.fnc_config.proofs.config.Config.register.Goals as goal
use Rattle.fnc_config.proofs.RegisteredDevices.{few-left}

pub returns-clause-few : goal.returns-clause-few
returns-clause-few c = λ device named moment h lawful same ordered.
    let others : length (without device.registration.name (configured h).devices) ≡ c.others.result =
    ap (λ name. length (without name (configured h).devices)) (named ∙ sym c.as_str.ensures)
    ∙ ap (λ (k : Configured). length (without c.as_str.result.now k.devices)) (sym (c.self.view_is ∙ same))
    ∙ sym c.others.ensures in
    let all : names_registered (record { moment = moment; event = Event.Device device } ∷ h)
    ≡ length (without device.registration.name (configured h).devices) + 1 =
    few-left h lawful moment device ordered in
    let few : names_registered (record { moment = moment; event = Event.Device device } ∷ h) ≤ 128 =
    omega (arith, others, all, c.if-others-ge-MOST_DEVICES.false) in
    few
