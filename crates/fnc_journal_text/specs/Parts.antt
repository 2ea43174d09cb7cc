-- How lines are printed part by part.
use Rattle.std.specs.Prelude.{ℕ, List, decimal}
use Rattle.std.specs.Fmt.{signed_decimal}
use Rattle.std.specs.List.{flat_map}
use Rattle.fnc_journal.specs.Line.{escaped}
use Rattle.fnc_journal_text.specs.declared.parts.Part.{Part}
use Rattle.fnc_journal_text.specs.Spelled.{
  actions_text,
  allowed_text,
  cap_text,
  scope_word,
  text_or_none,
  names_text,
  map_text,
  delays_text,
  parameters_text,
  own_text,
}

-- what is printed of a part
abbrev pub part_text : Part → List ℕ
part_text (Part.Word word) = word.now
part_text (Part.Number number) = decimal number
part_text (Part.Name name) = escaped name.now
part_text (Part.Signed number) = signed_decimal number
part_text (Part.Optional text) = text_or_none text.now
part_text (Part.Actions actions) = actions_text actions
part_text (Part.Cap cap) = cap_text cap
part_text (Part.Scope scope) = scope_word scope
part_text (Part.Allowed allowed) = allowed_text allowed.now
part_text (Part.Names names) = names_text names.now
part_text (Part.Map pairs) = map_text pairs.now
part_text (Part.Delays delays) = delays_text delays.now
part_text (Part.Parameters parameters) = parameters_text parameters.now
part_text (Part.Own options) = own_text options.now

-- what is printed of parts
abbrev pub parts_text : List Part → List ℕ
parts_text parts = flat_map part_text parts
