-- Lists of a line, and what they are made of, are read back from their spellings.
use Rattle.std.proofs.Common.{
  ◌≡◌,
  ◌<◌,
  ◌≤◌,
  ◌^◌,
  ◌==◌,
  ℕ,
  List,
  [],
  ◌∷◌,
  ◌++◌,
  Bool,
  true,
  false,
  length,
  map,
  codes,
  decimal,
  Ok,
  refl,
  ap,
  ◌∙◌,
  append_assoc,
  arith,
}
use Rattle.std.specs.Prelude.{nat_lt, nat_le}
use Rattle.std.specs.List.{list_all, list_any}
use Rattle.std.proofs.lemmas.Bool.{and_parts, leb-true}
use Rattle.fnc_journal.specs.declared.definition.Allowed.{Allowed}
use Rattle.fnc_journal.specs.declared.definition.Base.{Base}
use Rattle.fnc_journal.specs.declared.definition.Delay.{Delay}
use Rattle.fnc_journal.specs.declared.definition.Parameter.{Parameter}
use Rattle.fnc_journal.specs.declared.names.Pair.{Pair}
use Rattle.fnc_journal.specs.Line.{escaped}
use Rattle.fnc_journal.specs.Names.{is_name}
use Rattle.fnc_journal.specs.Bounds as Bounds
use Rattle.fnc_journal_reader.specs.Cuts.{front, after, parts}
use Rattle.fnc_journal_reader.specs.Reads.{each}
use Rattle.fnc_journal_text.specs.Spelled as Spelled
use Rattle.fnc_journal_reader.specs.Typed as Typed
use Rattle.fnc_journal_reader.specs.Values as Values
use Rattle.fnc_journal_reader.proofs.Spellings.{
  is_safe,
  lacks,
  has_byte,
  some-has,
  escaped-has,
  decimal-lacks,
  lacks-append,
}
use Rattle.fnc_journal_reader.proofs.Splits.{front-at, after-at, any-at, any-none, is_part, parts-listed, listed-lacks}
use Rattle.fnc_journal_reader.proofs.ValuesBack.{
  step,
  each-back,
  text-back,
  text-lacks,
  text-part,
  part-of,
  u64-back,
  u8-back,
  flag-back,
}

pub name-has : (name : List ℕ) → is_name name ≡ true → has_byte name ≡ true
name-has [] h = cc
name-has (b ∷ bs) h = refl

text-has : (most : ℕ) (is_byte : ℕ → Bool) (text : List ℕ) → Bounds.is_text most is_byte text ≡ true →
    has_byte text ≡ true
text-has most is_byte text h =
    some-has text
    (and_parts (nat_lt 0 (length text)) (nat_le (length text) most) (and_parts _ (list_all is_byte text) h).0).0

-- names of devices
pub names-back : (names : List (List ℕ)) → list_all is_name names ≡ true → list_all Typed.are_characters names ≡ true →
    each Values.text_of (parts 44 (Spelled.names_text names)) ≡ Ok names
names-back names b t =
    ap (each Values.text_of)
    (parts-listed 44 escaped is_name Typed.are_characters (λ x h k. text-part 44 x refl (name-has x h) k) names b t)
    ∙ each-back Values.text_of escaped is_name Typed.are_characters (λ x h k. text-back x k) names b t

pub names-lack : (names : List (List ℕ)) → list_all Typed.are_characters names ≡ true →
    lacks 32 (Spelled.names_text names) ≡ true
names-lack names t =
    listed-lacks 32 [] (codes ",") escaped Typed.are_characters Typed.are_characters (λ x h k. text-lacks 32 x refl k)
    refl refl names t t

pub names-has : (names : List (List ℕ)) → nat_lt 0 (length names) ≡ true → list_all is_name names ≡ true →
    has_byte (Spelled.names_text names) ≡ true
names-has [] l b = absurd cc
names-has (x ∷ xs) l b =
    longer (escaped x) _ (escaped-has x (name-has x (and_parts (is_name x) (list_all is_name xs) b).0))
  where
    longer : (w rest : List ℕ) → has_byte w ≡ true → has_byte (w ++ rest) ≡ true
    longer [] rest h = absurd cc
    longer (c ∷ cs) rest h = refl

-- hosts
pub hosts-back : (hosts : List (List ℕ)) → list_all Bounds.is_host hosts ≡ true →
    list_all Typed.are_characters hosts ≡ true → each Values.text_of (parts 44 (Spelled.names_text hosts)) ≡ Ok hosts
hosts-back hosts b t =
    ap (each Values.text_of) (parts-listed 44 escaped Bounds.is_host Typed.are_characters (λ x h k. text-part 44 x refl (text-has 255 Bounds.is_host_byte x h) k) hosts b t)
    ∙ each-back Values.text_of escaped Bounds.is_host Typed.are_characters (λ x h k. text-back x k) hosts b t

-- a name and a value
pub pair-back : (sep : ℕ) (p : Pair) → is_safe sep ≡ false → Typed.is_pair p ≡ true →
    Values.pair_of sep (escaped p.name ++ (sep ∷ []) ++ escaped p.value) ≡ Ok p
pair-back sep p s t =
    let two = and_parts (Typed.are_characters p.name) (Typed.are_characters p.value) t in
    let apart = append_assoc (escaped p.name) (sep ∷ []) (escaped p.value) in
    let lacking = text-lacks sep p.name s two.0 in
    step _ p.name _ _ (ap (λ w. Values.text_of (front sep w)) apart ∙ ap Values.text_of (front-at sep (escaped p.name) (escaped p.value) lacking) ∙ text-back p.name two.0)
    (step _ p.value _ _ (ap (λ w. Values.text_of (after sep w)) apart ∙ ap Values.text_of (after-at sep (escaped p.name) (escaped p.value) lacking) ∙ text-back p.value two.1) refl)

pair-lacks : (sep mark : ℕ) (p : Pair) → is_safe sep ≡ false → lacks sep (mark ∷ []) ≡ true → Typed.is_pair p ≡ true →
    lacks sep (escaped p.name ++ (mark ∷ []) ++ escaped p.value) ≡ true
pair-lacks sep mark p s m t =
    let two = and_parts (Typed.are_characters p.name) (Typed.are_characters p.value) t in
    lacks-append sep (escaped p.name ++ (mark ∷ [])) (escaped p.value)
    (lacks-append sep (escaped p.name) (mark ∷ []) (text-lacks sep p.name s two.0) m) (text-lacks sep p.value s two.1)

has-mark : (w rest : List ℕ) (mark : ℕ) → has_byte ((w ++ (mark ∷ [])) ++ rest) ≡ true
has-mark [] rest mark = refl
has-mark (c ∷ cs) rest mark = refl

-- hosts and their ports
pub map-back : (pairs : List Pair) → list_all Typed.is_pair pairs ≡ true →
    each (Values.pair_of 58) (parts 59 (Spelled.map_text pairs)) ≡ Ok pairs
map-back pairs t =
    ap (each (Values.pair_of 58))
    (parts-listed 59 Spelled.port_text Typed.is_pair Typed.is_pair (λ x h k. part-of 59 (Spelled.port_text x) (has-mark (escaped x.name) (escaped x.value) 58) (pair-lacks 59 58 x refl refl k)) pairs t t)
    ∙ each-back (Values.pair_of 58) Spelled.port_text Typed.is_pair Typed.is_pair (λ x h k. pair-back 58 x refl k) pairs
    t t

pub map-lacks : (pairs : List Pair) → list_all Typed.is_pair pairs ≡ true → lacks 32 (Spelled.map_text pairs) ≡ true
map-lacks pairs t =
    listed-lacks 32 [] (codes ";") Spelled.port_text Typed.is_pair Typed.is_pair
    (λ x h k. pair-lacks 32 58 x refl refl k) refl refl pairs t t

-- own options
pub own-part : (o : Pair) → Typed.is_pair o ≡ true → is_part 32 (Spelled.own_word o) ≡ true
own-part o t = pair-lacks 32 61 o refl refl t

pub owns-back : (own : List Pair) → list_all Typed.is_pair own ≡ true →
    each Values.own_of (map Spelled.own_word own) ≡ Ok own
owns-back own t =
    each-back Values.own_of Spelled.own_word Typed.is_pair Typed.is_pair (λ x h k. pair-back 61 x refl k) own t t

-- parameters
flag-lacks : (b : Bool) → lacks 32 (Spelled.flag_text b) ≡ true
flag-lacks true = refl
flag-lacks false = refl

pub parameter-part : (p : Parameter) → Typed.is_parameter p ≡ true → is_part 32 (Spelled.parameter_word p) ≡ true
parameter-part p t =
    lacks-append 32 (escaped p.name ++ codes "=") (Spelled.flag_text p.required)
    (lacks-append 32 (escaped p.name) (codes "=") (text-lacks 32 p.name refl t) refl) (flag-lacks p.required)

parameter-back : (p : Parameter) → Typed.is_parameter p ≡ true → Values.parameter_of (Spelled.parameter_word p) ≡ Ok p
parameter-back p t =
    let apart = append_assoc (escaped p.name) (codes "=") (Spelled.flag_text p.required) in
    let lacking = text-lacks 61 p.name refl t in
    step _ p.name _ _
    (ap (λ w. Values.text_of (front 61 w)) apart ∙ ap Values.text_of (front-at 61 (escaped p.name) (Spelled.flag_text p.required) lacking) ∙ text-back p.name t)
    (ap (λ (required : Bool). Ok (record { name = p.name; required = required }))
    (ap (λ w. Values.flag_of (after 61 w)) apart ∙ ap Values.flag_of (after-at 61 (escaped p.name) (Spelled.flag_text p.required) lacking) ∙ flag-back p.required))

pub parameters-back : (ps : List Parameter) → list_all Typed.is_parameter ps ≡ true →
    each Values.parameter_of (map Spelled.parameter_word ps) ≡ Ok ps
parameters-back ps t =
    each-back Values.parameter_of Spelled.parameter_word Typed.is_parameter Typed.is_parameter
    (λ x h k. parameter-back x k) ps t t

-- delays
time-fits : (ms : ℕ) → Bounds.is_time ms ≡ true → ms < 2 ^ 64
time-fits ms h = let small : ms ≤ 86400000 = leb-true ms 86400000 h in omega (arith, small)

delay-time : (d : Delay) → Bounds.is_delay d ≡ true → d.ms < 2 ^ 64
delay-time d b = time-fits d.ms (and_parts (Bounds.is_node d.name) (Bounds.is_time d.ms) b).1

delay-back : (d : Delay) → Bounds.is_delay d ≡ true → Typed.is_delay d ≡ true →
    Values.delay_of (Spelled.delay_text d) ≡ Ok d
delay-back d b t =
    let apart = append_assoc (escaped d.name) (codes ":") (decimal d.ms) in
    let lacking = text-lacks 58 d.name refl t in
    step _ d.name _ _ (ap (λ w. Values.text_of (front 58 w)) apart ∙ ap Values.text_of (front-at 58 (escaped d.name) (decimal d.ms) lacking) ∙ text-back d.name t)
    (step _ d.ms _ _ (ap (λ w. Values.u64_of (after 58 w)) apart ∙ ap Values.u64_of (after-at 58 (escaped d.name) (decimal d.ms) lacking) ∙ u64-back d.ms (delay-time d b)) refl)

delay-lacks : (sep : ℕ) (d : Delay) → is_safe sep ≡ false → lacks sep (codes ":") ≡ true → Bounds.is_delay d ≡ true →
    Typed.is_delay d ≡ true → lacks sep (Spelled.delay_text d) ≡ true
delay-lacks sep d s m b t =
    lacks-append sep (escaped d.name ++ codes ":") (decimal d.ms)
    (lacks-append sep (escaped d.name) (codes ":") (text-lacks sep d.name s t) m)
    (decimal-lacks sep d.ms s (delay-time d b))

delays-have : (ds : List Delay) → nat_lt 0 (length ds) ≡ true → list_any (λ b. b == 58) (Spelled.delays_text ds) ≡ true
delays-have [] l = absurd cc
delays-have (d ∷ ds) l =
    ap (list_any (λ b. b == 58)) (apart (escaped d.name) (decimal d.ms) _) ∙ any-at 58 (escaped d.name) _
  where
    apart : (x y rest : List ℕ) → ((x ++ (58 ∷ [])) ++ y) ++ rest ≡ x ++ (58 ∷ (y ++ rest))
    apart x y rest = ap (λ w. w ++ rest) (append_assoc x (58 ∷ []) y) ∙ append_assoc x (58 ∷ y) rest

pub base-back : (base : Base) → Bounds.is_base base ≡ true → Typed.is_base base ≡ true →
    Values.base_of (Spelled.base_text base) ≡ Ok base
base-back (Base.Fixed ms) b t =
    let fits = time-fits ms b in
    rw (any-none 58 (decimal ms) (decimal-lacks 58 ms refl fits))
    (step (Values.u64_of (decimal ms)) ms _ _ (u64-back ms fits) refl)
base-back (Base.ByNode ds) b t =
    let two = and_parts _ (list_all Bounds.is_delay ds) b in
    let lengths = and_parts (nat_lt 0 (length ds)) (nat_le (length ds) 256) two.0 in
    rw (delays-have ds lengths.0)
    (step (each Values.delay_of (parts 59 (Spelled.delays_text ds))) ds _ _
    (ap (each Values.delay_of)
    (parts-listed 59 Spelled.delay_text Bounds.is_delay Typed.is_delay (λ x h k. part-of 59 (Spelled.delay_text x) (has-mark (escaped x.name) (decimal x.ms) 58) (delay-lacks 59 x refl refl h k)) ds two.1 t)
    ∙ each-back Values.delay_of Spelled.delay_text Bounds.is_delay Typed.is_delay delay-back ds two.1 t)
    refl)

pub base-lacks : (base : Base) → Bounds.is_base base ≡ true → Typed.is_base base ≡ true →
    lacks 32 (Spelled.base_text base) ≡ true
base-lacks (Base.Fixed ms) b t = decimal-lacks 32 ms refl (time-fits ms b)
base-lacks (Base.ByNode ds) b t =
    let two = and_parts _ (list_all Bounds.is_delay ds) b in
    listed-lacks 32 [] (codes ";") Spelled.delay_text Bounds.is_delay Typed.is_delay
    (λ x h k. delay-lacks 32 x refl refl h k) refl refl ds two.1 t

pub time-back : (ms : ℕ) → Bounds.is_time ms ≡ true → Values.u64_of (decimal ms) ≡ Ok ms
time-back ms b = u64-back ms (time-fits ms b)

pub time-lacks : (ms : ℕ) → Bounds.is_time ms ≡ true → lacks 32 (decimal ms) ≡ true
time-lacks ms b = decimal-lacks 32 ms refl (time-fits ms b)

-- what an action is allowed
record IsAllowed (a : Allowed) : Type 0 where
  time : a.time < 2 ^ 64
  tries : a.tries < 2 ^ 8

is_allowed : (a : Allowed) → Bounds.is_allowed a ≡ true → IsAllowed a
is_allowed a b =
    let five = and_parts _ (nat_le a.tries 16) b in
    let four = and_parts _ (nat_lt 0 a.tries) five.0 in
    let three = and_parts _ (Bounds.is_time a.time) four.0 in
    let few : a.tries ≤ 16 = leb-true a.tries 16 five.1 in
    record { time = time-fits a.time three.1; tries = omega (arith, few) }

allowed-apart : (x y z : List ℕ) → (((x ++ (47 ∷ [])) ++ y) ++ (47 ∷ [])) ++ z ≡ x ++ (47 ∷ (y ++ (47 ∷ z)))
allowed-apart x y z = simp (append_assoc) refl

pub allowed-back : (a : Allowed) → Bounds.is_allowed a ≡ true → Typed.are_characters a.word ≡ true →
    Values.allowed_of (Spelled.allowed_text a) ≡ Ok a
allowed-back a b t =
    let fits = is_allowed a b in
    let rest = decimal a.time ++ (47 ∷ decimal a.tries) in
    let apart = allowed-apart (escaped a.word) (decimal a.time) (decimal a.tries) in
    let lacking = text-lacks 47 a.word refl t in
    let numbers = ap (after 47) apart ∙ after-at 47 (escaped a.word) rest lacking in
    let digits = decimal-lacks 47 a.time refl fits.time in
    step _ a.word _ _ (ap (λ w. Values.text_of (front 47 w)) apart ∙ ap Values.text_of (front-at 47 (escaped a.word) rest lacking) ∙ text-back a.word t)
    (step _ a.time _ _ (ap (λ w. Values.u64_of (front 47 w)) numbers ∙ ap Values.u64_of (front-at 47 (decimal a.time) (decimal a.tries) digits) ∙ u64-back a.time fits.time)
    (step _ a.tries _ _ (ap (λ w. Values.u8_of (after 47 w)) numbers ∙ ap Values.u8_of (after-at 47 (decimal a.time) (decimal a.tries) digits) ∙ u8-back a.tries fits.tries) refl))

pub allowed-lacks : (a : Allowed) → Bounds.is_allowed a ≡ true → Typed.are_characters a.word ≡ true →
    lacks 32 (Spelled.allowed_text a) ≡ true
allowed-lacks a b t =
    let fits = is_allowed a b in
    let x = escaped a.word in
    let y = decimal a.time in
    lacks-append 32 (((x ++ codes "/") ++ y) ++ codes "/") (decimal a.tries)
    (lacks-append 32 ((x ++ codes "/") ++ y) (codes "/") (lacks-append 32 (x ++ codes "/") y (lacks-append 32 x (codes "/") (text-lacks 32 a.word refl t) refl) (decimal-lacks 32 a.time refl fits.time)) refl)
    (decimal-lacks 32 a.tries refl (omega (arith, fits.tries)))
