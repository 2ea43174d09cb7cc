-- What an agent is sent can be sent: names and values that its reader finds again.
use Rattle.std.proofs.Common.{ℕ, zero, suc, ◌-◌, ◌<◌, List, [], ◌∷◌, ◌++◌, Bool, true, false, cond, not, ◌&&◌, ◌||◌, ◌==◌, ◌≡◌, refl, sym, ap, ◌∙◌, subst, Option, Some, None, length, get_or, drop, eqb, eqb-true, eq-eqb, arith, ◌≤◌}
use Rattle.std.specs.Prelude.{IsTrue, bytes_eq, codes, filter, find, nat_eq, nat_le, nat_lt, option_map, option_to_list, slice_index, unwrap_or}
use Rattle.std.specs.List.{list_all, list_any, ends_with}
use Rattle.std.proofs.lemmas.Bool.{and_parts, and_from, le-leb, leb-true}
use Rattle.std.proofs.lemmas.List.Folds.{list_all-append}
use Rattle.fnc_journal.specs.declared.definition.Definition.{Definition}
use Rattle.fnc_journal.specs.declared.entry.Kind.{Kind}
use Rattle.fnc_journal.specs.declared.limits.TheConstants.{LONGEST_NAME, LONGEST_OPTION_NAME, LONGEST_VALUE}
use Rattle.fnc_journal.specs.declared.names.Pair.{Pair}
use Rattle.fnc_journal.specs.Bounds as Bounds
use Rattle.fnc_journal.specs.Bounds.{IsBounded}
use Rattle.fnc_journal.specs.Names as Names
use Rattle.fnc_journal.specs.Device.{port_of}
use Rattle.fnc_journal.specs.EntryBounds.{is_bounded}
use Rattle.fnc_journal.proofs.DefinitionBounds.{is-bounded}
use Rattle.fnc_agent_api.specs.Options.{pair}
use Rattle.fnc_agent_api.specs.OptionLines.{is_name, is_value, is_sendable}
use Rattle.fnc_jobs.specs.Inputs.{is_sent, own_sent, sets, port_in, port_sent}

-- the name of an option can be sent
name-is : (name : List ℕ) → Bounds.is_option_name name ≡ true → is_name name ≡ true
name-is [] h = cc
name-is (b ∷ bs) h =
    let bytes = and_parts _ (list_all Bounds.is_option_byte (b ∷ bs)) h in
    let front = and_parts (not (b == 35)) (nat_le (length (b ∷ bs)) LONGEST_OPTION_NAME) bytes.0 in
    and_from _ _ front.0 bytes.1

-- what passes a test passes a weaker one
weaker : (p q : ℕ → Bool) → ((b : ℕ) → p b ≡ true → q b ≡ true) → (bs : List ℕ) → list_all p bs ≡ true →
    list_all q bs ≡ true
weaker p q each [] h = refl
weaker p q each (b ∷ bs) h =
    let parts = and_parts (p b) (list_all p bs) h in and_from _ _ (each b parts.0) (weaker p q each bs parts.1)

-- the last byte of a text, 0 where it has none
abbrev last : List ℕ → ℕ
last bs = slice_index bs (length bs - 1)

last-more : (b c : ℕ) (bs : List ℕ) → last (b ∷ c ∷ bs) ≡ last (c ∷ bs)
last-more b c bs =
    let e : length (b ∷ c ∷ bs) - 1 ≡ suc (length (c ∷ bs) - 1) = omega arith in
    rw e refl

-- the last byte of a text passes a test that its bytes pass
last-passes : (p : ℕ → Bool) (b : ℕ) (bs : List ℕ) → list_all p (b ∷ bs) ≡ true → p (last (b ∷ bs)) ≡ true
last-passes p b [] h = (and_parts (p b) true h).0
last-passes p b (c ∷ bs) h =
    rw (last-more b c bs) (last-passes p c bs (and_parts (p b) (list_all p (c ∷ bs)) h).1)

-- a text of bytes of which none is a space is a value that can be sent
solid : (p : ℕ → Bool) → ((b : ℕ) → p b ≡ true → Bounds.is_value_byte b ≡ true) → p 32 ≡ false → (bs : List ℕ) →
    list_all p bs ≡ true → is_value bs ≡ true
solid p each none [] h = refl
solid p each none (b ∷ bs) h =
    and_from _ _ (weaker p Bounds.is_value_byte each (b ∷ bs) h)
    (go (last (b ∷ bs) == 32) refl (last-passes p b bs h))
  where
    go : (c : Bool) → (last (b ∷ bs) == 32) ≡ c → p (last (b ∷ bs)) ≡ true → not c ≡ true
    go false e k = refl
    go true e k =
        let same : last (b ∷ bs) ≡ 32 = eqb-true (last (b ∷ bs)) 32 e in
        let spaced : p 32 ≡ true = ap p (sym same) ∙ k in
        let both : false ≡ true = sym none ∙ spaced in
        cc

-- a text that does not end with a space
last-dropped : (b : ℕ) (bs : List ℕ) → drop (length (b ∷ bs) - 1) (b ∷ bs) ≡ last (b ∷ bs) ∷ []
last-dropped b [] = refl
last-dropped b (c ∷ bs) =
    let e : length (b ∷ c ∷ bs) - 1 ≡ suc (length (c ∷ bs) - 1) = omega arith in
    rw (last-more b c bs, e) (last-dropped c bs)

ends-last : (b : ℕ) (bs : List ℕ) → ends_with nat_eq (b ∷ bs) (codes " ") ≡ (nat_eq 32 (last (b ∷ bs)) && true)
ends-last b bs = rw (last-dropped b bs) refl

not-nat_eq : (a b : ℕ) → not (nat_eq a b && true) ≡ true → not (b == a) ≡ true
not-nat_eq a b h = go (nat_eq a b) refl (b == a) refl h
  where
    go : (c : Bool) → nat_eq a b ≡ c → (d : Bool) → (b == a) ≡ d → not (c && true) ≡ true → not d ≡ true
    go c e false f k = refl
    go true e true f k = cc
    go false e true f k =
        let same : b ≡ a = eqb-true b a f in
        let both : false ≡ true = sym e ∙ eq-eqb a b (sym same) in
        cc

-- a value that does not end with a space
unspaced : (bs : List ℕ) → list_all Bounds.is_value_byte bs ≡ true →
    not (ends_with nat_eq bs (codes " ")) ≡ true → is_value bs ≡ true
unspaced [] h k = refl
unspaced (b ∷ bs) h k =
    let ended : not (nat_eq 32 (last (b ∷ bs)) && true) ≡ true = ap not (sym (ends-last b bs)) ∙ k in
    and_from _ _ h (not-nat_eq 32 (last (b ∷ bs)) ended)

-- an own option can be sent
own-is : (o : Pair) → Bounds.is_own_option o ≡ true → is_sendable o ≡ true
own-is o h =
    let ends = and_parts _ (not (ends_with nat_eq o.value (codes " "))) h in
    let own = and_parts _ (Bounds.is_own o.name) ends.0 in
    let both = and_parts (Bounds.is_option_name o.name) (Bounds.is_option_value o.value) own.0 in
    let value = and_parts (nat_le (length o.value) LONGEST_VALUE) (list_all Bounds.is_value_byte o.value) both.1 in
    and_from _ _ (name-is o.name both.0) (unspaced o.value value.1 ends.1)

own-are : (os : List Pair) → list_all Bounds.is_own_option os ≡ true →
    list_all is_sendable (filter (λ (o : Pair). is_sent o.name) os) ≡ true
own-are [] h = refl
own-are (o ∷ os) h =
    let parts = and_parts (Bounds.is_own_option o) (list_all Bounds.is_own_option os) h in
    go (is_sent o.name) (own-are os parts.1) (own-is o parts.0)
  where
    go : (b : Bool) → list_all is_sendable (filter (λ (o : Pair). is_sent o.name) os) ≡ true →
        is_sendable o ≡ true →
        list_all is_sendable (cond b (o ∷ filter (λ (o : Pair). is_sent o.name) os)
        (filter (λ (o : Pair). is_sent o.name) os)) ≡ true
    go true rest this = and_from _ _ this rest
    go false rest this = rest

-- a byte of a name, and one of a port, may stand in a value
name-byte : (b : ℕ) → Names.is_name_byte b ≡ true → Bounds.is_value_byte b ≡ true
name-byte b h =
    let comma = and_parts _ (not (b == 44)) h in
    let parts = and_parts (nat_le 0x21 b) (not (b == 0x7F)) comma.0 in
    let above : 0x21 ≤ b = leb-true 0x21 b parts.0 in
    and_from _ _ (le-leb 0x20 b (omega arith)) parts.1

entry-byte : (b : ℕ) → Bounds.is_entry_byte b ≡ true → Bounds.is_value_byte b ≡ true
entry-byte b h = (and_parts (Bounds.is_value_byte b) (not ((b == 59) || (b == 32))) h).0

-- the port of a node can be sent
map-port : (target : List ℕ) (ps : List Pair) → list_all Bounds.is_host_pair ps ≡ true → is_value target ≡ true →
    is_value (unwrap_or (option_map (λ (p : Pair). p.value) (find (λ (p : Pair). bytes_eq target p.name) ps)) target)
    ≡ true
map-port target [] h named = named
map-port target (p ∷ ps) h named =
    let parts = and_parts (Bounds.is_host_pair p) (list_all Bounds.is_host_pair ps) h in
    let pair_is = and_parts (Bounds.is_node p.name) (Bounds.is_text (LONGEST_VALUE - 2) Bounds.is_entry_byte p.value)
    parts.0 in
    let bytes = and_parts _ (list_all Bounds.is_entry_byte p.value) pair_is.1 in
    go (bytes_eq target p.name) (solid Bounds.is_entry_byte entry-byte refl p.value bytes.1)
    (map-port target ps parts.1 named)
  where
    go : (b : Bool) → is_value p.value ≡ true →
        is_value (unwrap_or (option_map (λ (p : Pair). p.value) (find (λ (p : Pair). bytes_eq target p.name) ps)) target)
        ≡ true →
        is_value (unwrap_or (option_map (λ (p : Pair). p.value)
        (cond b (Some p) (find (λ (p : Pair). bytes_eq target p.name) ps))) target) ≡ true
    go true this rest = this
    go false this rest = rest

node-is : (target : List ℕ) → Names.is_name target ≡ true → is_value target ≡ true
node-is target h =
    solid Names.is_name_byte name-byte refl target
    (and_parts (nat_le 1 (length target) && nat_le (length target) LONGEST_NAME)
    (list_all Names.is_name_byte target) h).1

port-is : (d : Definition) (target : List ℕ) (name : Option (List ℕ)) → IsBounded d → Names.is_name target ≡ true →
    Bounds.is_carrier name ≡ true → list_all is_sendable (option_to_list (port_in d target name)) ≡ true
port-is d target None bounded named carrier = refl
port-is d target (Some name) bounded named carrier =
    go (sets d name)
    (and_from _ _ (name-is name carrier) (map-port target d.map bounded.map (node-is target named)))
  where
    go : (b : Bool) → is_sendable (pair name (port_of d target)) ≡ true →
        list_all is_sendable (option_to_list (cond b None (Some (pair name (port_of d target))))) ≡ true
    go true this = refl
    go false this = and_from _ _ this refl

sent-is : (d : Definition) (kind : Kind) (target : List ℕ) → IsBounded d → Names.is_name target ≡ true →
    list_all is_sendable (option_to_list (port_sent d kind target)) ≡ true
sent-is d Kind.List target bounded named = refl
sent-is d Kind.On target bounded named = port-is d target d.argument bounded named bounded.argument
sent-is d Kind.Off target bounded named = port-is d target d.argument bounded named bounded.argument
sent-is d Kind.Reboot target bounded named = port-is d target d.argument bounded named bounded.argument
sent-is d Kind.Status target bounded named = port-is d target d.argument bounded named bounded.argument

-- the port and the own options can be sent
pub all-sendable : (d : Definition) (kind : Kind) (target : List ℕ) → is_bounded d ≡ true →
    Names.is_name target ≡ true →
    list_all is_sendable (option_to_list (port_sent d kind target) ++ own_sent d) ≡ true
all-sendable d kind target within named =
    let bounded = is-bounded d within in
    list_all-append is_sendable (option_to_list (port_sent d kind target)) (own_sent d)
    ∙ and_from _ _ (sent-is d kind target bounded named) (own-are d.own bounded.own)
