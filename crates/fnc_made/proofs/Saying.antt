-- What a line that is made says is plain.
use Rattle.std.proofs.Common.{ℕ, List, [], ◌∷◌, ◌++◌, Bool, true, false, ◌≡◌, ◌+◌, ◌%◌, cond, refl, sym, ap, ap₂, ◌∙◌, subst, Some, None, Result, Ok, Err, IfOk, length}
use Rattle.std.specs.Prelude.{codes, decimal, nat_lt}
use Rattle.std.specs.Str.{is_utf8}
use Rattle.std.proofs.lemmas.List.{append_assoc}
use Rattle.fnc_journal.specs.declared.limits.TheConstants.{LONGEST_LINE}
use Rattle.fnc_journal.specs.declared.cause.Cause.{Cause}
use Rattle.fnc_journal.specs.declared.names.Pair.{Pair}
use Rattle.fnc_text.specs.Words.{words}
use Rattle.fnc_command.specs.declared.command.Command.{Command}
use Rattle.fnc_command.specs.declared.command.Mode.{Mode}
use Rattle.fnc_command.specs.declared.head.Verb.{Verb}
use Rattle.fnc_command.specs.Answers.{and_then}
use Rattle.fnc_command.specs.Asks.{ask_of, asking, said_ask, no_options, with_words}
use Rattle.fnc_command.specs.Commands.{ended, said_exit}
use Rattle.fnc_command.specs.Cuts.{three}
use Rattle.fnc_command.specs.Fields.{action_of, bytes_of, name_of, number_of, passing, text_of}
use Rattle.fnc_command.specs.Levels.{devices_of, level_of, said_level, target_of}
use Rattle.fnc_command.specs.Lines.{Beginning, beginning, command, moment_of, said, said_after, verb_of}
use Rattle.fnc_command.specs.Options.{cut_option, pair_of, pairs_of, said_device}
use Rattle.fnc_made.specs.Made.{made_text}
use Rattle.fnc_made.specs.Plain.{PlainCommand, PlainRead}
use Rattle.fnc_made.specs.declared.made.Made.{Made}
use Rattle.fnc_made.proofs.Defined.{ten_seconds, times, times-plain}
use Rattle.fnc_made.proofs.Letters.{are_letters, decimal-letters, decimal-some, has_byte, word-before}

-- what holds of all that may be read next holds of what is read
next : {X Y : Type 0} (P : Y → Type 0) (r : Result X Cause) (f : X → Result Y Cause) → ((x : X) → IfOk (f x) P) →
    IfOk (and_then r f) P
next P (Ok x) f k = k x
next P (Err cause) f k = tt

-- the same, with what holds of what was read before
then : {X Y : Type 0} (P : X → Type 0) (Q : Y → Type 0) (r : Result X Cause) (f : X → Result Y Cause) → IfOk r P →
    ((x : X) → P x → IfOk (f x) Q) → IfOk (and_then r f) Q
then P Q (Ok x) f h k = k x h
then P Q (Err cause) f h k = tt

abbrev PlainSaid : Result Command Cause → Type 0
PlainSaid said = IfOk said PlainCommand

-- a line of which the words after the verb say what is plain
after-verb : (w v : List ℕ) (ws : List (List ℕ)) (verb : Verb) → verb_of Mode.Timed v ≡ Ok verb →
    PlainSaid (command Mode.Timed verb ws) →
    PlainRead (and_then (beginning Mode.Timed (w ∷ v ∷ ws)) (λ b. said_after Mode.Timed b))
after-verb w v ws verb e k = rw e (go (moment_of w))
  where
    at : (m : ℕ) (c : Result Command Cause) → PlainSaid c →
        PlainRead (and_then c (λ command. Ok (record { moment = Some m; command = command })))
    at m (Ok command) k = k
    at m (Err cause) k = tt

    go : (m : Result ℕ Cause) →
        PlainRead
        (and_then (and_then m (λ moment. Ok (record { moment = Some moment; verb = verb; words = ws })))
        (λ (b : Beginning). said_after Mode.Timed b))
    go (Ok m) = at m (command Mode.Timed verb ws) k
    go (Err cause) = tt

-- a line of these words
of-words : (line w v : List ℕ) (ws : List (List ℕ)) (verb : Verb) → words line ≡ w ∷ v ∷ ws →
    verb_of Mode.Timed v ≡ Ok verb → PlainSaid (command Mode.Timed verb ws) → PlainRead (said Mode.Timed line)
of-words line w v ws verb apart e k = go (nat_lt LONGEST_LINE (length line)) (is_utf8 line)
  where
    read : PlainRead (and_then (beginning Mode.Timed (words line)) (λ b. said_after Mode.Timed b))
    read = rw apart (after-verb w v ws verb e k)

    go : (long text : Bool) →
        PlainRead
        (and_then (cond long (Err Cause.TooLong) (cond text (Ok (words line)) (Err Cause.NotUtf8)))
        (λ ws. and_then (beginning Mode.Timed ws) (λ b. said_after Mode.Timed b)))
    go true text = tt
    go false true = read
    go false false = tt

exit-plain : (ws : List (List ℕ)) → PlainSaid (said_exit ws)
exit-plain ws = next _ (ended ws) _ (λ e. tt)

level-plain : (ws : List (List ℕ)) → PlainSaid (said_level ws)
level-plain ws =
    next _ (three ws) level_of (λ w. next _ (number_of 18446744073709551615 w.0) _ (λ index.
    next _ (target_of w.1) _ (λ target. next _ (devices_of w.2) _ (λ devices. tt))))

ask-plain : (ws : List (List ℕ)) → PlainSaid (said_ask Mode.Timed ws)
ask-plain ws =
    next _ (asking ws) (ask_of Mode.Timed) (λ a. next _ (name_of a.client) _ (λ client.
    next _ (action_of a.action) _ (λ kind. next _ (name_of a.target) _ (λ target.
    next _ (with_words Mode.Timed no_options a.options) _ (λ o. tt)))))

-- the words after the name of a made device
abbrev times_text : List ℕ
times_text = codes "pcmk_on_timeout=10s pcmk_off_timeout=10s pcmk_reboot_timeout=10s"

-- a text that a word spells, where it is one
text-is : (word bytes : List ℕ) → bytes_of word ≡ Ok bytes → IfOk (text_of word) (λ t. t ≡ bytes)
text-is word bytes e = rw e (go (is_utf8 bytes))
  where
    go : (text : Bool) → IfOk (passing Cause.BadEscape text bytes) (λ t. t ≡ bytes)
    go true = refl
    go false = tt

pair-is : (word name value : List ℕ) → cut_option word ≡ Some (name, value) → bytes_of name ≡ Ok name →
    bytes_of value ≡ Ok value → IfOk (pair_of word) (λ p. p ≡ record { name = name; value = value })
pair-is word name value cut n v =
    rw cut
    (then (λ t. t ≡ name) _ (text_of name) _ (text-is name name n) (λ x p.
    then (λ t. t ≡ value) _ (text_of value) _ (text-is value value v) (λ y q.
    ap₂ (λ (a b : List ℕ). record { name = a; value = b }) p q)))

-- an option of ten seconds before others
option-more : (word name : List ℕ) (ws : List (List ℕ)) (ps : List Pair) → cut_option word ≡ Some (name, codes "10s") →
    bytes_of name ≡ Ok name → IfOk (pairs_of ws) (λ xs. xs ≡ ps) →
    IfOk (pairs_of (word ∷ ws)) (λ xs. xs ≡ ten_seconds name ∷ ps)
option-more word name ws ps cut n b =
    then (λ x. x ≡ ten_seconds name) _ (pair_of word) _ (pair-is word name (codes "10s") cut n refl) (λ x e.
    then (λ xs. xs ≡ ps) _ (pairs_of ws) _ b (λ xs f. ap₂ (λ (y : Pair) (ys : List Pair). y ∷ ys) e f))

times-are : IfOk (pairs_of (words times_text)) (λ options. options ≡ times)
times-are =
    let reboot = codes "pcmk_reboot_timeout" in
    let off = codes "pcmk_off_timeout" in
    let reboot_word = codes "pcmk_reboot_timeout=10s" in
    let off_word = codes "pcmk_off_timeout=10s" in
    option-more (codes "pcmk_on_timeout=10s") (codes "pcmk_on_timeout") (off_word ∷ reboot_word ∷ [])
    (ten_seconds off ∷ ten_seconds reboot ∷ []) refl refl
    (option-more off_word off (reboot_word ∷ []) (ten_seconds reboot ∷ []) refl refl
    (option-more reboot_word reboot [] [] refl refl refl))

device-plain : (word : List ℕ) → PlainSaid (said_device (word ∷ words times_text))
device-plain word =
    next _ (name_of word) _ (λ name.
    then (λ options. options ≡ times) PlainCommand (pairs_of (words times_text)) _ times-are (λ options e.
    subst (λ (o : List Pair). PlainCommand (Command.Device name None o)) (sym e) times-plain))

-- a line that begins with these two words, of which the second is a verb
begun : (w v rest : List ℕ) (verb : Verb) → has_byte w ≡ true → are_letters w ≡ true → has_byte v ≡ true →
    are_letters v ≡ true → verb_of Mode.Timed v ≡ Ok verb → PlainSaid (command Mode.Timed verb (words rest)) →
    PlainRead (said Mode.Timed (w ++ 32 ∷ (v ++ 32 ∷ rest)))
begun w v rest verb i j k l e p =
    of-words (w ++ 32 ∷ (v ++ 32 ∷ rest)) w v (words rest) verb
    (word-before w (v ++ 32 ∷ rest) i j ∙ ap (λ ws. w ∷ ws) (word-before v rest k l)) e p

timed : (m : ℕ) (v rest : List ℕ) (verb : Verb) → has_byte v ≡ true → are_letters v ≡ true →
    verb_of Mode.Timed v ≡ Ok verb → ((ws : List (List ℕ)) → PlainSaid (command Mode.Timed verb ws)) →
    PlainRead (said Mode.Timed (decimal m ++ 32 ∷ (v ++ 32 ∷ rest)))
timed m v rest verb i j e p =
    begun (decimal m) v rest verb (decimal-some m) (decimal-letters m) i j e (p (words rest))

-- the name of a made device is a word
name-letters : (k : ℕ) → are_letters (100 ∷ decimal k) ≡ true
name-letters k = decimal-letters k

pub made-plain : (m : Made) → PlainRead (said Mode.Timed (made_text m))
made-plain (Made.Device k) =
    let name : List ℕ = 100 ∷ decimal k in
    begun (codes "0") (codes "device") (name ++ 32 ∷ times_text) Verb.Device refl refl refl refl refl
    (subst (λ ws. PlainSaid (said_device ws)) (sym (word-before name times_text refl (name-letters k)))
    (device-plain name))
made-plain (Made.First k) =
    let rest = codes "1 n" ++ decimal k ++ codes " d" ++ decimal (k % 8) in
    begun (codes "0") (codes "level") rest Verb.Level refl refl refl refl refl (level-plain (words rest))
made-plain (Made.Second k) =
    let rest =
    codes "2 n" ++ decimal k ++ codes " d" ++ decimal ((k % 8 + 1) % 8) ++ codes ",d" ++ decimal ((k % 8 + 2) % 8) in
    begun (codes "0") (codes "level") rest Verb.Level refl refl refl refl refl (level-plain (words rest))
made-plain (Made.Off m k) =
    subst (λ line. PlainRead (said Mode.Timed line))
    (sym (append_assoc (decimal m) (codes " ask c off n") (decimal k)))
    (timed m (codes "ask") (codes "c off n" ++ decimal k) Verb.Ask refl refl refl ask-plain)
made-plain (Made.Reboot m k) =
    subst (λ line. PlainRead (said Mode.Timed line))
    (sym (append_assoc (decimal m) (codes " ask c reboot n") (decimal k)))
    (timed m (codes "ask") (codes "c reboot n" ++ decimal k) Verb.Ask refl refl refl ask-plain)
made-plain (Made.Exit m run code) =
    subst (λ line. PlainRead (said Mode.Timed line)) (sym apart)
    (timed m (codes "exit") (decimal run ++ codes " " ++ decimal code) Verb.Exit refl refl refl exit-plain)
  where
    apart : made_text (Made.Exit m run code) ≡ decimal m ++ (codes " exit " ++ decimal run ++ codes " " ++ decimal code)
    apart =
        ap (λ (x : List ℕ). x ++ codes " " ++ decimal code) (append_assoc (decimal m) (codes " exit ") (decimal run))
        ∙ ap (λ (x : List ℕ). x ++ decimal code)
        (append_assoc (decimal m) (codes " exit " ++ decimal run) (codes " "))
        ∙ append_assoc (decimal m) (codes " exit " ++ decimal run ++ codes " ") (decimal code)
made-plain (Made.Pass m) =
    of-words (decimal m ++ codes " pass") (decimal m) (codes "pass") [] Verb.Pass
    (word-before (decimal m) (codes "pass") (decimal-some m) (decimal-letters m)) refl tt
