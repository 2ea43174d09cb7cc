use Rattle.std.proofs.Common.{◌≡◌, ℕ, List, Bool, None, refl, ap, true, false}
use Rattle.serde_json.specs.Read.{read}
use Rattle.fnc_agent_api.specs.Descriptions.{json_of, described_by}
use Rattle.std.specs.Str.{is_utf8}
use Rattle.std.proofs.lemmas.Bool.{false≢true}
use Rattle.std.proofs.lemmas.Str.{is_utf8-from_IsUtf8, IsUtf8-from_is_utf8}
use Rattle.fnc_agent_api.proofs.description.read_value.Goals as goal

-- bytes that are no text, or no JSON, have no value
refused : (bytes : List ℕ) (b : Bool) → is_utf8 bytes ≡ b → (is_utf8 bytes ≡ true → read bytes ≡ None)
    → json_of bytes ≡ None
refused bytes true e none = rw e (none e)
refused bytes false e none = rw e refl

pub returns-in-Ok-clause-ok : goal.returns-in-Ok-clause-ok
returns-in-Ok-clause-ok c = rw (is_utf8-from_IsUtf8 c.args.json.now c.in-Ok.ensures.ok.0) c.in-Ok.ensures.ok.1

pub returns-in-Err-2-clause-err : goal.returns-in-Err-2-clause-err
returns-in-Err-2-clause-err c =
    ap described_by (refused c.args.json.now (is_utf8 c.args.json.now) refl (λ u.
    c.in-Err.ensures.err (λ m. false≢true (c.if-is_memory.ensures.1 m)) (IsUtf8-from_is_utf8 c.args.json.now u)))
