-- The words of a command, as its form takes them.
use Rattle.std.proofs.Common.{◌≡◌, ◌∷◌, ℕ, ◌-◌, ◌≤◌, List, [], Bool, true, false, length, map, take, get_or, refl, ap, sym, ◌∙◌, arith, Bor, Option, Some, None, not, ◌&&◌, ◌||◌, cond, find, option_map, bytes_eq}
use Rattle.std.specs.List.{list_any}
use Rattle.std.proofs.Math.Seq.{take-length}
use Rattle.command_words.specs.declared.form.CommandForm.{CommandForm}
use Rattle.command_words.specs.Commands.{Command, command_named, forms}
use Rattle.command_words.specs.Files.{all_differ}
use Rattle.command_words.specs.Forms.{Form, form_seen}
use Rattle.command_words.specs.Items.{items_of}
use Rattle.command_words.specs.Settings.{Settings}
use Rattle.command_words.specs.Spelling.{Found, command_of, found_among, settings_of}
use Rattle.text_lines.specs.Headline.Steps.{◌>>=◌}
use Rattle.command_words.proofs.Taking.{behind, first}

abbrev texts : List (Bor (List ℕ)) → List (List ℕ)
texts words = map (λ word. word.now) words

any_text : (word : List ℕ) (words : List (Bor (List ℕ))) → list_any (λ other. bytes_eq other word) (texts words) ≡ list_any (λ other. bytes_eq other.now word) words
any_text word [] = refl
any_text word (w ∷ words) = ap (λ t. bytes_eq w.now word || t) (any_text word words)

pub first_differs : (words : List (Bor (List ℕ))) (d : Bor (List ℕ)) (again : Bool) → 1 ≤ length words → again ≡ list_any (λ other. bytes_eq other.now (get_or words 0 d).now) (behind words) →
    all_differ (texts words) ≡ (not again && all_differ (texts (behind words)))
first_differs [] d again some h = absurd (omega (arith, some))
first_differs (w ∷ words) d again some h =
    let short : length (w ∷ words) - 1 ≡ length words = omega arith in
    let same : take (length (w ∷ words) - 1) words ≡ words = ap (λ n. take n words) short ∙ take-length words in
    ap (λ t. not t && all_differ (texts words)) (any_text w.now words ∙ ap (list_any (λ other. bytes_eq other.now w.now)) (sym same) ∙ sym h)
    ∙ ap (λ ws. not again && all_differ (texts ws)) (sym same)

-- the first form of the code with the name
found_in : (name : List ℕ) (form : CommandForm) (t : Bool) (rest : Option Form) (other : Option CommandForm) → rest ≡ option_map form_seen other →
    cond t (Some (form_seen form)) rest ≡ option_map form_seen (cond t (Some form) other)
found_in name form true rest other h = refl
found_in name form false rest other h = h

pub named : (name : List ℕ) (forms : List CommandForm) → find (λ form. bytes_eq form.name name) (map form_seen forms) ≡ option_map form_seen (find (λ form. bytes_eq form.name.now name) forms)
named name [] = refl
named name (form ∷ forms) = found_in name form (bytes_eq form.name.now name) _ _ (named name forms)

same_then : {A B : Type 0} (a : Option A) (f g : A → Option B) → ((x : A) → f x ≡ g x) → (a >>= f) ≡ (a >>= g)
same_then None f g h = refl
same_then (Some x) f g h = h x

-- what a form makes of what was found
abbrev pub makes : Form → Found → Option Command
makes form found = settings_of form found >>= (λ settings. command_named form.command settings found.plain)

-- what a form makes of what was found, if anything
abbrev pub makes_of : Option Found → Form → Option Command
makes_of found form = found >>= makes form

pub no_words : command_of [] ≡ None
unfolding command_of
no_words = refl

pub some_words : (name : List ℕ) (words : List (List ℕ)) → command_of (name ∷ words) ≡ (find (λ form. bytes_eq form.name name) forms >>= makes_of (items_of None words >>= found_among))
unfolding command_of
some_words name words = same_then (find (λ form. bytes_eq form.name name) forms) _ _ (λ form. sym (first (items_of None words) found_among (makes form)))

-- the command of words that begin with a name, as far as is known what its parts come to
module _ (words rest : List (List ℕ)) (name : List ℕ) (begins : words ≡ name ∷ rest) where
  pub by_form : (form : Option Form) → form ≡ find (λ form. bytes_eq form.name name) forms → command_of words ≡ (form >>= makes_of (items_of None rest >>= found_among))
  by_form form h = ap command_of begins ∙ some_words name rest ∙ ap (λ f. f >>= makes_of (items_of None rest >>= found_among)) (sym h)

  module _ (form : Form) (h : Some form ≡ find (λ form. bytes_eq form.name name) forms) where
    pub by_parts : (found : Option Found) → found ≡ (items_of None rest >>= found_among) → command_of words ≡ (found >>= makes form)
    by_parts found k = by_form (Some form) h ∙ ap (λ f. f >>= makes form) (sym k)

    pub by_settings : (found : Found) (settings : Option Settings) → Some found ≡ (items_of None rest >>= found_among) → settings ≡ settings_of form found →
        command_of words ≡ (settings >>= (λ s. command_named form.command s found.plain))
    by_settings found settings k s = by_parts (Some found) k ∙ ap (λ x. x >>= (λ s. command_named form.command s found.plain)) (sym s)
