use Rattle.std.proofs.Common.{
  rules,
  ◌≡◌,
  ◌<◌,
  ◌≤◌,
  ◌-◌,
  length,
  IsTrue,
  vec_len,
  vec_capacity,
  drop,
  take,
  arith,
  refl,
  IsOk,
  is_ok,
  true,
  false,
}
use Rattle.std.proofs.lemmas.List.{map-append}
use Rattle.fnc_outside.proofs.Cutting.{cut_at}
use Rattle.fnc_outside.proofs.memory_source.MemorySource.take_line.Goals as goal

pub invariant_of-self : goal.invariant_of-self
invariant_of-self c =
    let within : c.self.inside.at < length c.self.inside.bytes.items = search rules in
    let cut = cut_at _ _ _ _ c.as_slice.ensures.value within c.line_length-length.ensures.length
    c.line_length-length.ensures.within in
    let room : vec_len c.self.inside.taken < vec_capacity c.self.inside.taken = omega
    (arith, cut.one_less, c.self.invariant) in
    let pushed : IsOk c.push.result = c.push.ensures.succeeds room in (
      search (rules, cut.within),
      search (rules, cut.one_less, pushed, c.push.ensures.len, c.push.ensures.capacity, c.self.invariant),
    )

pub returns-then-append-clause-takes : goal.returns-then-append-clause-takes
returns-then-append-clause-takes c =
    let within : c.self.inside.at < length c.self.inside.bytes.items = search rules in
    let cut = cut_at _ _ _ _ c.as_slice.ensures.value within c.line_length-length.ensures.length
    c.line_length-length.ensures.within in
    rw (← c.self.view_is, cut.lines, c.if-append.ensures.added, c.requires.empty) refl

pub returns-then-append-clause-gives : goal.returns-then-append-clause-gives
returns-then-append-clause-gives c =
    let within : c.self.inside.at < length c.self.inside.bytes.items = search rules in
    let cut = cut_at _ _ _ _ c.as_slice.ensures.value within c.line_length-length.ensures.length
    c.line_length-length.ensures.within in
    let room : vec_len c.self.inside.taken < vec_capacity c.self.inside.taken = omega
    (arith, cut.one_less, c.self.invariant) in
    let pushed : IsOk c.push.result = c.push.ensures.succeeds room in
    let ok : is_ok c.push.result ≡ true = pushed in
    rw (← c.self.view_is, c.if-append.ensures.added, c.requires.empty, cut.same, c.push.ensures.items, ok)
    (map-append _ _ _)

pub invariant_of-self-else-append : goal.invariant_of-self-else-append
invariant_of-self-else-append c =
    let within : c.self.inside.at < length c.self.inside.bytes.items = search rules in
    let cut = cut_at _ _ _ _ c.as_slice.ensures.value within c.line_length-length.ensures.length
    c.line_length-length.ensures.within in
    let room : vec_len c.self.inside.taken < vec_capacity c.self.inside.taken = omega
    (arith, cut.one_less, c.self.invariant) in
    let pushed : IsOk c.push-else-append.result = c.push-else-append.ensures.succeeds room in (
      search (rules, cut.within),
      search (
        rules,
        cut.one_less,
        pushed,
        c.push-else-append.ensures.len,
        c.push-else-append.ensures.capacity,
        c.self.invariant,
      ),
    )

pub returns-else-append-clause-takes : goal.returns-else-append-clause-takes
returns-else-append-clause-takes c =
    let within : c.self.inside.at < length c.self.inside.bytes.items = search rules in
    let cut = cut_at _ _ _ _ c.as_slice.ensures.value within c.line_length-length.ensures.length
    c.line_length-length.ensures.within in
    let line = take c.line_length-length.result
    (take (length c.as_slice.result.now - c.self.inside.at) (drop c.self.inside.at c.as_slice.result.now)) in
    let long : ¬ (length line ≤ c.args.line.now.size) =
    λ fits. let fitted : IsTrue false = c.if-append.ensures.fits.1 (rw c.requires.empty (omega (arith, fits))) in cc in
    (line, rw (← c.self.view_is, cut.lines) refl, rw c.if-append.ensures.full (omega (arith, long)))

pub returns-else-append-clause-gives : goal.returns-else-append-clause-gives
returns-else-append-clause-gives c =
    let within : c.self.inside.at < length c.self.inside.bytes.items = search rules in
    let cut = cut_at _ _ _ _ c.as_slice.ensures.value within c.line_length-length.ensures.length
    c.line_length-length.ensures.within in
    let room : vec_len c.self.inside.taken < vec_capacity c.self.inside.taken = omega
    (arith, cut.one_less, c.self.invariant) in
    let pushed : IsOk c.push-else-append.result = c.push-else-append.ensures.succeeds room in
    let ok : is_ok c.push-else-append.result ≡ true = pushed in
    rw (← c.self.view_is, c.push-else-append.ensures.items, ok, c.size-size.ensures) (map-append _ _ _)
