-- What an object tells of its contents. It may tell nothing, and it may stop telling.
use Rattle.std.specs.Prelude.{◌≡◌, List, ◌++◌, Option, Some, None}

-- the fact holds of what is told before and after a call; who tells after the call told before it
abbrev pub WhereTold : {A : Type 0} → Option A → Option A → (A → A → Type 0) → Type 0
WhereTold before None P = Unit {0}
WhereTold None (Some _) P = ⊥
WhereTold (Some old) (Some new) P = P old new

-- where a list is told, the call added these at its end
abbrev pub Gains : {A : Type 0} → Option (List A) → Option (List A) → List A → Type 0
Gains before after more = WhereTold before after (λ old new. new ≡ old ++ more)

-- where a list is told, the call left it as it was
abbrev pub Keeps : {A : Type 0} → Option A → Option A → Type 0
Keeps before after = WhereTold before after (λ old new. new ≡ old)
