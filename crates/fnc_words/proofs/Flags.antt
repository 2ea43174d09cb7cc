-- Whether a flag was given, whose value passed its parser.
use Rattle.std.proofs.Common.{◌≡◌, ◌∙◌, ◌||◌, Bool, true, false, Option, Some, None, refl, sym, ap, codes}
use Rattle.std.specs.Option.{option_map_or}
use Rattle.std.specs.Str.{bytes_eq}
use Rattle.std.proofs.lemmas.Slice.Eq.{bytes_eq-Decides}
use Rattle.clap.specs.Words.{Rule, Text, one_of, one_text, rows_of}
use Rattle.clap.specs.declared.parser.matches.Found.{Found}
use Rattle.clap.specs.declared.builder.value_parser.ValueParser.TheVariants as parser
use Rattle.clap.proofs.WalkLemmas.{one_text-rows}
use Rattle.fnc_words.specs.Making.{HasPassed, Passed}

flag-read : (text : Option Text) (flag : Bool) → (text ≡ None → flag ≡ false) →
    (text ≡ Some (codes "true") → flag ≡ true) → (text ≡ Some (codes "false") → flag ≡ false) →
    ((t : Text) → text ≡ Some t → Passed parser.Bool t) →
    option_map_or (λ t. bytes_eq t (codes "true")) text false ≡ flag
flag-read None flag none on off passed = sym (none refl)
flag-read (Some t) flag none on off passed = go (passed t refl)
  where
    go : Passed parser.Bool t → bytes_eq t (codes "true") ≡ flag
    go pass = pick (bytes_eq pass.text (codes "true")) refl pass.accepted
      where
        pick : (b : Bool) → bytes_eq pass.text (codes "true") ≡ b →
            (b || bytes_eq pass.text (codes "false")) ≡ true → bytes_eq t (codes "true") ≡ flag
        pick true e accepted =
            let is : t ≡ codes "true" = pass.is ∙ (bytes_eq-Decides pass.text (codes "true")).0 e in
            ap (λ (u : Text). bytes_eq u (codes "true")) is ∙ sym (on (ap Some is))
        pick false e accepted =
            let is : t ≡ codes "false" = pass.is ∙ (bytes_eq-Decides pass.text (codes "false")).0 accepted in
            ap (λ (u : Text). bytes_eq u (codes "true")) is ∙ sym (off (ap Some is))

-- what is read of an argument that is a flag
pub flag-of : (rule : Rule) (f : Found) (flag : Bool) → rule.parser ≡ Some parser.Bool → HasPassed (rows_of f) rule →
    (one_text f rule.id ≡ None → flag ≡ false) → (one_text f rule.id ≡ Some (codes "true") → flag ≡ true) →
    (one_text f rule.id ≡ Some (codes "false") → flag ≡ false) →
    option_map_or (λ t. bytes_eq t (codes "true")) (one_of rule.id (rows_of f)) false ≡ flag
flag-of rule f flag parsed passed none on off =
    let same = one_text-rows f rule.id in
    flag-read (one_of rule.id (rows_of f)) flag (λ e. none (same ∙ e)) (λ e. on (same ∙ e)) (λ e. off (same ∙ e))
    (λ t e. passed _ t parsed e)
