-- Lists of words that name a job, and of words that name none.
use Rattle.std.proofs.Common.{◌≡◌, ◌∙◌, ◌<◌, ◌≤◌, ◌+◌, ◌^◌, ◌==◌, ◌%◌, ◌++◌, ℕ, Bool, true, false, List, [], ◌∷◌, length, Option, Some, None, refl, sym, ap, subst, codes, arith, append_assoc, append-nil}
use Rattle.std.specs.Prelude.{IfNone, decimal}
use Rattle.std.specs.List.{list_any}
use Rattle.std.proofs.lemmas.Bool.Decides.{nat_tests}
use Rattle.std.proofs.lemmas.Fmt.{decimal_by_steps, decimal_injective}
use Rattle.clap.specs.Lexer.{strip_byte}
use Rattle.scatter_run.specs.CommandLine.{begins_with_hyphen, command_line}
use Rattle.clap.specs.Words.{takes}
use Rattle.scatter_run.specs.Form.{form_word}
use Rattle.scatter_run.specs.declared.form.Form.{Form}
use Rattle.scatter_run.specs.declared.form.Form.TheVariants as form
use Rattle.scatter_run.specs.Words.{AreCompleteWords, AreSessionWords, AreGenerateWords, AreWordsOf, NameNoJob}
use Rattle.scatter_run.specs.declared.words.Job.{Job}
use Rattle.scatter_run.specs.declared.words.Job.TheVariants.{Complete, Session, Generate}
use Rattle.scatter_run.proofs.CommandLine.{IsPlain, ArePlain, taken}

pub if-none : {A : Type 0} (o : Option A) (P : Type 0) → P → IfNone o P
if-none None P p = p
if-none (Some a) P p = tt

-- ---- words of no job

-- each job has a word, and one to three numbers
pub names-none : (words : List (List ℕ)) → (length words ≡ 2 → ⊥) → (length words ≡ 3 → ⊥) → (length words ≡ 4 → ⊥) → NameNoJob words
names-none words two three four (Complete f o w) a = three (ap length a.words)
names-none words two three four (Session o w r) a = four (ap length a.words)
names-none words two three four (Generate n) a = two (ap length a.words)

-- ---- words name one job

-- by how many there are
apart : (words : List (List ℕ)) (n m : ℕ) → (n ≡ m → ⊥) → length words ≡ n → length words ≡ m → ⊥
apart words n m differ e f = differ (sym e ∙ f)

complete-count : (words : List (List ℕ)) (f : Form) (o w : ℕ) → AreCompleteWords words f o w → length words ≡ 3
complete-count words f o w a = ap length a.words

session-count : (words : List (List ℕ)) (o w r : ℕ) → AreSessionWords words o w r → length words ≡ 4
session-count words o w r a = ap length a.words

generate-count : (words : List (List ℕ)) (n : ℕ) → AreGenerateWords words n → length words ≡ 2
generate-count words n a = ap length a.words

pub same-number : (words : List (List ℕ)) (n m : ℕ) → AreGenerateWords words n → AreGenerateWords words m → n ≡ m
same-number words n m a b =
    let e : codes "generate" ∷ decimal n ∷ [] ≡ codes "generate" ∷ decimal m ∷ [] = sym a.words ∙ b.words in
    let x = a.number_most in let y = b.number_most in
    decimal_injective n m (omega (arith, x)) (omega (arith, y)) cc

-- each form has a word of its own
form-one : (f g : Form) → form_word f ≡ form_word g → f ≡ g
form-one form.Text form.Text e = refl
form-one form.Text form.Json e = let l : 8 ≡ 13 = ap length e in absurd (omega (arith, l))
form-one form.Json form.Text e = let l : 13 ≡ 8 = ap length e in absurd (omega (arith, l))
form-one form.Json form.Json e = refl
form-one form.Text form.Asks e = let l : 8 ≡ 5 = ap length e in absurd (omega (arith, l))
form-one form.Json form.Asks e = let l : 13 ≡ 5 = ap length e in absurd (omega (arith, l))
form-one form.Asks form.Text e = let l : 5 ≡ 8 = ap length e in absurd (omega (arith, l))
form-one form.Asks form.Json e = let l : 5 ≡ 13 = ap length e in absurd (omega (arith, l))
form-one form.Asks form.Asks e = refl

pub one-job : (words : List (List ℕ)) (job other : Job) → AreWordsOf words job → AreWordsOf words other → other ≡ job
one-job words (Complete f o w) (Complete f' o' w') a b =
    let e : form_word f' ∷ decimal o' ∷ decimal w' ∷ [] ≡ form_word f ∷ decimal o ∷ decimal w ∷ [] = sym b.words ∙ a.words in
    let x = a.order_most in let y = b.order_most in
    let u = a.workers_most in let v = b.workers_most in
    let h : f' ≡ f = form-one f' f cc in
    let g : o' ≡ o = decimal_injective o' o (omega (arith, y)) (omega (arith, x)) cc in
    let k : w' ≡ w = decimal_injective w' w (omega (arith, v)) (omega (arith, u)) cc in
    λ i. Complete (h i) (g i) (k i)
one-job words (Complete f o w) (Session o' w' r) a b = absurd (apart words 3 4 (λ e. cc) (complete-count words f o w a) (session-count words o' w' r b))
one-job words (Complete f o w) (Generate n) a b = absurd (apart words 3 2 (λ e. cc) (complete-count words f o w a) (generate-count words n b))
one-job words (Session o w r) (Complete f o' w') a b = absurd (apart words 4 3 (λ e. cc) (session-count words o w r a) (complete-count words f o' w' b))
one-job words (Session o w r) (Session o' w' r') a b =
    let e : codes "session" ∷ decimal o' ∷ decimal w' ∷ decimal r' ∷ [] ≡ codes "session" ∷ decimal o ∷ decimal w ∷ decimal r ∷ [] = sym b.words ∙ a.words in
    let x = a.order_most in let y = b.order_most in
    let u = a.workers_most in let v = b.workers_most in
    let p = a.readers_most in let q = b.readers_most in
    let g : o' ≡ o = decimal_injective o' o (omega (arith, y)) (omega (arith, x)) cc in
    let k : w' ≡ w = decimal_injective w' w (omega (arith, v)) (omega (arith, u)) cc in
    let l : r' ≡ r = decimal_injective r' r (omega (arith, q)) (omega (arith, p)) cc in
    λ i. Session (g i) (k i) (l i)
one-job words (Session o w r) (Generate n) a b = absurd (apart words 4 2 (λ e. cc) (session-count words o w r a) (generate-count words n b))
one-job words (Generate n) (Complete f o w) a b = absurd (apart words 2 3 (λ e. cc) (generate-count words n a) (complete-count words f o w b))
one-job words (Generate n) (Session o w r) a b = absurd (apart words 2 4 (λ e. cc) (generate-count words n a) (session-count words o w r b))
one-job words (Generate n) (Generate m) a b = ap (λ (k : ℕ). Generate k) (same-number words m n b a)

-- ---- no job's word begins with a hyphen

digit-plain : (d : ℕ) (rest : List ℕ) → IsPlain ((48 + d) ∷ rest)
digit-plain d rest = let e : ((48 + d) == 45) ≡ false = grind (arith, nat_tests) in rw e refl

-- whatever follows
abbrev BeginsPlain : List ℕ → Type 0
BeginsPlain word = (rest : List ℕ) → IsPlain (word ++ rest)

decimal-begins : (n : ℕ) → n < 2 ^ 64 → BeginsPlain (decimal n)
decimal-begins = decimal_by_steps (λ (n : ℕ) (ds : List ℕ). BeginsPlain ds) one more
  where
    one : (n : ℕ) → n < 10 → BeginsPlain ((48 + n) ∷ [])
    one n l rest = digit-plain n rest

    more : (n : ℕ) (ds : List ℕ) → 10 ≤ n → BeginsPlain ds → BeginsPlain (ds ++ ((48 + n % 10) ∷ []))
    more n ds l h rest = subst IsPlain (sym (append_assoc ds ((48 + n % 10) ∷ []) rest)) (h ((48 + n % 10) ∷ rest))

decimal-plain : (n : ℕ) → n < 2 ^ 64 → IsPlain (decimal n)
decimal-plain n l = subst IsPlain (append-nil (decimal n)) (decimal-begins n l [])

form-plain : (f : Form) → IsPlain (form_word f)
form-plain form.Text = refl
form-plain form.Json = refl
form-plain form.Asks = refl

pub job-plain : (words : List (List ℕ)) (job : Job) → AreWordsOf words job → ArePlain words
job-plain words (Complete f o w) a =
    let x = a.order_most in let y = a.workers_most in
    subst ArePlain (sym a.words) (form-plain f, (decimal-plain o (omega (arith, x)), (decimal-plain w (omega (arith, y)), tt)))
job-plain words (Session o w r) a =
    let x = a.order_most in let y = a.workers_most in let z = a.readers_most in
    subst ArePlain (sym a.words) (refl, (decimal-plain o (omega (arith, x)), (decimal-plain w (omega (arith, y)), (decimal-plain r (omega (arith, z)), tt))))
job-plain words (Generate n) a =
    let x = a.number_most in
    subst ArePlain (sym a.words) (refl, (decimal-plain n (omega (arith, x)), tt))

pub job-taken : (words : List (List ℕ)) (job : Job) → AreWordsOf words job → takes command_line words ≡ true
job-taken words (Complete f o w) a =
    let p = subst ArePlain a.words (job-plain words (Complete f o w) a) in
    subst (λ (ws : List (List ℕ)). takes command_line ws ≡ true) (sym a.words) (taken (form_word f) (decimal o ∷ decimal w ∷ []) p.0 p.1 refl)
job-taken words (Session o w r) a =
    let p = subst ArePlain a.words (job-plain words (Session o w r) a) in
    subst (λ (ws : List (List ℕ)). takes command_line ws ≡ true) (sym a.words) (taken (codes "session") (decimal o ∷ decimal w ∷ decimal r ∷ []) p.0 p.1 refl)
job-taken words (Generate n) a =
    let p = subst ArePlain a.words (job-plain words (Generate n) a) in
    subst (λ (ws : List (List ℕ)). takes command_line ws ≡ true) (sym a.words) (taken (codes "generate") (decimal n ∷ []) p.0 p.1 refl)

-- ---- the test for such words

any-hyphen : (words : List (List ℕ)) → ArePlain words → list_any begins_with_hyphen words ≡ false
any-hyphen [] p = refl
any-hyphen (w ∷ ws) p = rw p.0 (any-hyphen ws p.1)

pub flagged-names-none : (words : List (List ℕ)) → list_any begins_with_hyphen words ≡ true → NameNoJob words
flagged-names-none words t job a = let f : true ≡ false = sym t ∙ any-hyphen words (job-plain words job a) in cc

plain-word : (w : List ℕ) → begins_with_hyphen w ≡ false → IsPlain w
plain-word w = go (strip_byte 45 w) refl
  where
    go : (o : Option (List ℕ)) → strip_byte 45 w ≡ o → begins_with_hyphen w ≡ false → IsPlain w
    go None e f = e
    go (Some x) e f = let t : true ≡ false = rw e at f in cc

pub unflagged-plain : (words : List (List ℕ)) → list_any begins_with_hyphen words ≡ false → ArePlain words
unflagged-plain [] f = tt
unflagged-plain (w ∷ ws) f = (plain-word w (first (begins_with_hyphen w) refl), unflagged-plain ws (rest (begins_with_hyphen w) refl))
  where
    first : (b : Bool) → begins_with_hyphen w ≡ b → begins_with_hyphen w ≡ false
    first true e = let t : true ≡ false = rw e at f in cc
    first false e = e

    rest : (b : Bool) → begins_with_hyphen w ≡ b → list_any begins_with_hyphen ws ≡ false
    rest true e = let t : true ≡ false = rw e at f in cc
    rest false e = rw e at f
