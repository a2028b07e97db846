-- What the command line makes of words of which none begins with a hyphen: the first is the job, and the others are its numbers.
use Rattle.std.proofs.Common.{◌≡◌, ◌∙◌, ◌==◌, ◌&&◌, ◌++◌, ℕ, Bool, true, false, List, [], ◌∷◌, length, Option, Some, None, refl, sym, ap, ap₂, codes, arith, append_assoc, append-nil}
use Rattle.std.specs.Prelude.{option_and_then, is_some, nat_le}
use Rattle.std.specs.List.{fold, list_all}
use Rattle.std.specs.Str.{bytes_eq}
use Rattle.std.proofs.lemmas.Bool.Decides.{nat_tests}
use Rattle.clap.specs.Lexer.{strip_byte, long_of, long_of_rest, short_of, short_of_rest, usize_max}
use Rattle.clap.specs.Walk.{Held, Row, Rule, Step, Text, Waiting, Walk, idle, option, positional, value, word_met, walked, walk, walk_from, finished, nothing_held, after_step}
use Rattle.clap.specs.Simple.{Shape, built, entered, filled, matches_of, with_index}
use Rattle.clap.specs.Takes.{takes, walk_passes, turn_passes, values_pass, word_passes, entered_passes, settle_passes, default_passes, is_valid}
use Rattle.clap.specs.declared.builder.value_parser.ValueParser.TheVariants.{String}
use Rattle.clap.specs.declared.builder.value_parser.Reading.TheVariants.{AsWritten}
use Rattle.clap.specs.declared.parser.matches.ValueSource.TheVariants.{CommandLine}
use Rattle.scatter_run.specs.CommandLine.{command_line, numbers_rule, words_read}

abbrev pub IsPlain : Text → Type 0
IsPlain word = strip_byte 45 word ≡ None

abbrev pub ArePlain : List Text → Type 0
ArePlain [] = Unit {0}
ArePlain (word ∷ words) = IsPlain word × ArePlain words

abbrev shape : Shape
shape = (built command_line).top

abbrev rules : List Rule
rules = shape.rules

not-dashes : (word : Text) → IsPlain word → bytes_eq word (45 ∷ 45 ∷ []) ≡ false
not-dashes [] p = refl
not-dashes (x ∷ xs) p = go (x == 45) refl
  where
    go : (t : Bool) → (x == 45) ≡ t → bytes_eq (x ∷ xs) (45 ∷ 45 ∷ []) ≡ false
    go true e = let bad : Some xs ≡ None = rw e at p in cc
    go false e = rw e refl

not-long : (word : Text) → IsPlain word → long_of word ≡ None
not-long word p = ap (λ (o : Option Text). option_and_then long_of_rest (option_and_then (strip_byte 45) o)) p

not-short : (word : Text) → IsPlain word → short_of word ≡ None
not-short word p = ap (λ (o : Option Text). option_and_then short_of_rest o) p

-- such a word goes to a positional
met-idle : (n : ℕ) (word : Text) (h : Held) → IsPlain word → word_met rules [] false idle n word h ≡ (h, value)
met-idle n word h p = rw (not-dashes word p, not-long word p, not-short word p) refl

met-positional : (n : ℕ) (word : Text) (h : Held) → IsPlain word → word_met rules [] false positional n word h ≡ (h, value)
met-positional n word h p = rw (not-dashes word p, not-long word p, not-short word p) refl

-- ---- the walk

abbrev job_row : Text → Row
job_row a = record {
  id = codes "job";
  values = a ∷ [];
  count = None;
  source = Some CommandLine;
  reading = AsWritten;
}

-- after the first word
abbrev at_job : Text → Walk
at_job a = record {
  held = record { rows = []; pending = Some (codes "job", a ∷ []); skip = 0 };
  waiting = idle;
  position = 2;
  is_trailing = false;
  stopped = None;
}

-- after the first word and numbers
abbrev at_numbers : Text → List Text → Walk
at_numbers a ws = record {
  held = record { rows = job_row a ∷ []; pending = Some (codes "numbers", ws); skip = 0 };
  waiting = positional;
  position = 2;
  is_trailing = false;
  stopped = None;
}

step-first : (a : Text) → IsPlain a → walked rules [] (walk_from nothing_held) a ≡ at_job a
unfolding walked
step-first a p = ap (λ (m : Held × Step). after_step rules a (walk_from nothing_held) m.0 m.1) (met-idle 1 a nothing_held p)

step-second : (a b : Text) → IsPlain b → walked rules [] (at_job a) b ≡ at_numbers a (b ∷ [])
unfolding walked
step-second a b p = ap (λ (m : Held × Step). after_step rules b (at_job a) m.0 m.1) (met-idle 2 b (at_job a).held p)

step-more : (a b : Text) (ws : List Text) → IsPlain b → walked rules [] (at_numbers a ws) b ≡ at_numbers a (ws ++ b ∷ [])
unfolding walked
step-more a b ws p = ap (λ (m : Held × Step). after_step rules b (at_numbers a ws) m.0 m.1) (met-positional 2 b (at_numbers a ws).held p)

walk-more : (a : Text) (ws rest : List Text) → ArePlain rest → fold (walked rules []) (at_numbers a ws) rest ≡ at_numbers a (ws ++ rest)
walk-more a ws [] p = ap (at_numbers a) (sym (append-nil ws))
walk-more a ws (b ∷ rest) p =
    ap (λ (w : Walk). fold (walked rules []) w rest) (step-more a b ws p.0) ∙ walk-more a (ws ++ b ∷ []) rest p.1 ∙ ap (at_numbers a) (append_assoc ws (b ∷ []) rest)

-- where the walk ends
abbrev end_of : Text → List Text → Walk
end_of a [] = at_job a
end_of a (b ∷ rest) = at_numbers a (b ∷ rest)

walk-all : (a : Text) (rest : List Text) → IsPlain a → ArePlain rest → walk rules [] nothing_held (a ∷ rest) ≡ end_of a rest
walk-all a [] p q = step-first a p
walk-all a (b ∷ rest) p q =
    ap (λ (w : Walk). fold (walked rules []) w (b ∷ rest)) (step-first a p)
    ∙ ap (λ (w : Walk). fold (walked rules []) w rest) (step-second a b q.0) ∙ walk-more a (b ∷ []) rest q.1

read-end : (a : Text) (rest : List Text) → words_read (finished rules (end_of a rest).held) ≡ a ∷ rest
read-end a [] = refl
read-end a (b ∷ rest) = refl

pub read-as-written : (words : List Text) → ArePlain words → words_read (matches_of command_line words) ≡ words
read-as-written [] p = refl
read-as-written (a ∷ rest) p = ap (λ (w : Walk). words_read (finished rules w.held)) (walk-all a rest p.0 p.1) ∙ read-end a rest

-- ---- such words are taken

-- each value of the command line is text
values-pass : (r : Rule) (ws : List Text) → r.parser ≡ Some String → values_pass r ws ≡ true
values-pass r [] e = refl
values-pass r (w ∷ ws) e = rw e (values-pass r ws e)

word-passes : (waiting : Waiting) (word : Text) (h : Held) → IsPlain word → word_passes shape [] false waiting word h ≡ true
word-passes idle word h p = rw (not-dashes word p, not-long word p, not-short word p) refl
word-passes (option id) word h p = rw (not-dashes word p, not-long word p, not-short word p) refl
word-passes positional word h p = rw (not-dashes word p, not-long word p, not-short word p) refl

turn-first : (a : Text) → IsPlain a → turn_passes shape [] (walk_from nothing_held) a ≡ true
turn-first a p = rw (met-idle 1 a nothing_held p, word-passes idle a nothing_held p) refl

turn-second : (a b : Text) → IsPlain b → turn_passes shape [] (at_job a) b ≡ true
turn-second a b p = rw (met-idle 2 b (at_job a).held p, word-passes idle b (at_job a).held p) refl

turn-more : (a b : Text) (ws : List Text) → IsPlain b → turn_passes shape [] (at_numbers a ws) b ≡ true
turn-more a b ws p = rw (met-positional 2 b (at_numbers a ws).held p, word-passes positional b (at_numbers a ws).held p) refl

passes-more : (a : Text) (ws rest : List Text) → ArePlain rest → walk_passes shape [] (at_numbers a ws) rest ≡ true
unfolding walk_passes
passes-more a ws [] p = refl
passes-more a ws (b ∷ rest) p = rw (turn-more a b ws p.0, step-more a b ws p.0) (passes-more a (ws ++ b ∷ []) rest p.1)

passes-all : (a : Text) (rest : List Text) → IsPlain a → ArePlain rest → walk_passes shape [] (walk_from nothing_held) (a ∷ rest) ≡ true
unfolding walk_passes
passes-all a [] p q = rw (turn-first a p) refl
passes-all a (b ∷ rest) p q = rw (turn-first a p, step-first a p, turn-second a b q.0, step-second a b q.0) (passes-more a (b ∷ []) rest q.1)

-- what is asked where the walk has ended
abbrev ends-well : Walk → Bool → Bool
ends-well w passed =
    entered_passes (built command_line) w.stopped
    && (passed && (settle_passes rules false w.held && (list_all default_passes rules && is_valid shape (finished rules w.held) (is_some (entered (built command_line) w.stopped)))))

end-well : (a : Text) (rest : List Text) → nat_le (length rest) usize_max ≡ true → ends-well (end_of a rest) true ≡ true
end-well a [] l = refl
end-well a (b ∷ rest) l = let z : nat_le 0 (length (b ∷ rest)) ≡ true = grind (arith, nat_tests) in rw (l, z, values-pass (with_index 2 (filled numbers_rule)) rest refl) refl

pub taken : (a : Text) (rest : List Text) → IsPlain a → ArePlain rest → nat_le (length rest) usize_max ≡ true → takes command_line (a ∷ rest) ≡ true
taken a rest p q l = ap₂ ends-well (walk-all a rest p q) (passes-all a rest p q) ∙ end-well a rest l
