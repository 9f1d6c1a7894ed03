-- What the first of some words adds to what was found before them.
use Rattle.std.proofs.Common.{◌≡◌, ◌∷◌, ◌++◌, ℕ, ◌-◌, ◌≤◌, ◌<◌, List, [], Bool, true, false, length, map, take, drop, get_or, refl, ap, sym, ◌∙◌, arith, append_assoc, Option, Some, None, nat_le, if◌then◌else◌, option_map}
use Rattle.std.proofs.Math.Seq.{take-length}
use Rattle.std.proofs.lemmas.Bool.{le-leb, leb-false, lt-leb}
use Rattle.std.proofs.lemmas.List.{append-nil, length-append, length-map, length-take}
use Rattle.command_words.specs.declared.option.OptionName.{OptionName}
use Rattle.command_words.specs.declared.option.OptionName.TheVariants.{Limit, Slot, Slots, Order, Swap, By}
use Rattle.command_words.specs.Items.{Item, Given, Plain, Reading, Ends, Awaits, Gives, Stands, Fails, in_front, items_of, plain_of, reading_of, values_of}
use Rattle.command_words.specs.Parts.{first_value, nothing_found, one_in_all, with_items, with_plain, with_value, with_words}
use Rattle.command_words.specs.Spelling.{Found, few_words, found_among}
use Rattle.command_words.specs.declared.plain.PlainWords.{PlainWords}
use Rattle.command_words.specs.PlainWords.{plain_seen}
use Rattle.text_lines.specs.Headline.Steps.{◌>>=◌}

in_front-then : {A B : Type 0} (x : A) (xs : Option (List A)) (f : List A → Option B) → (in_front x xs >>= f) ≡ (xs >>= (λ ys. f (x ∷ ys)))
in_front-then x None f = refl
in_front-then x (Some ys) f = refl

-- a step in the place of a later one
pub first : {K S B : Type 0} (r : Option K) (g : K → Option S) (k : S → Option B) → ((r >>= g) >>= k) ≡ (r >>= (λ y. g y >>= k))
first None g k = refl
first (Some y) g k = refl

-- a step that doesn't depend on an earlier one
swap : {A B C : Type 0} (items : Option A) (r : Option B) (f : A → Option C) (g : B → A → Option C) → ((x : A) → f x ≡ (r >>= (λ y. g y x))) → (items >>= f) ≡ (r >>= (λ y. items >>= g y))
swap None None f g h = refl
swap None (Some y) f g h = refl
swap (Some x) r f g h = h x

second : {A K S B : Type 0} (a : Option A) (r : Option K) (g : K → Option S) (k : A → S → Option B) →
    (a >>= (λ x. (r >>= g) >>= k x)) ≡ (r >>= (λ y. a >>= (λ x. g y >>= k x)))
second a r g k = swap a r (λ x. (r >>= g) >>= k x) (λ y x. g y >>= k x) (λ x. first r g (k x))

third : {A C K S B : Type 0} (a : Option A) (c : Option C) (r : Option K) (g : K → Option S) (k : A → C → S → Option B) →
    (a >>= (λ x. c >>= (λ z. (r >>= g) >>= k x z))) ≡ (r >>= (λ y. a >>= (λ x. c >>= (λ z. g y >>= k x z))))
third a c r g k = swap a r (λ x. c >>= (λ z. (r >>= g) >>= k x z)) (λ y x. c >>= (λ z. g y >>= k x z)) (λ x. second c r g (k x))

fourth : {A C D K S B : Type 0} (a : Option A) (c : Option C) (d : Option D) (r : Option K) (g : K → Option S) (k : A → C → D → S → Option B) →
    (a >>= (λ x. c >>= (λ z. d >>= (λ w. (r >>= g) >>= k x z w)))) ≡ (r >>= (λ y. a >>= (λ x. c >>= (λ z. d >>= (λ w. g y >>= k x z w)))))
fourth a c d r g k = swap a r (λ x. c >>= (λ z. d >>= (λ w. (r >>= g) >>= k x z w))) (λ y x. c >>= (λ z. d >>= (λ w. g y >>= k x z w))) (λ x. third c d r g (k x))

fifth : {A C D E K S B : Type 0} (a : Option A) (c : Option C) (d : Option D) (e : Option E) (r : Option K) (g : K → Option S) (k : A → C → D → E → S → Option B) →
    (a >>= (λ x. c >>= (λ z. d >>= (λ w. e >>= (λ v. (r >>= g) >>= k x z w v))))) ≡ (r >>= (λ y. a >>= (λ x. c >>= (λ z. d >>= (λ w. e >>= (λ v. g y >>= k x z w v))))))
fifth a c d e r g k =
    swap a r (λ x. c >>= (λ z. d >>= (λ w. e >>= (λ v. (r >>= g) >>= k x z w v)))) (λ y x. c >>= (λ z. d >>= (λ w. e >>= (λ v. g y >>= k x z w v)))) (λ x. fourth c d e r g (k x))

sixth : {A C D E F K S B : Type 0} (a : Option A) (c : Option C) (d : Option D) (e : Option E) (i : Option F) (r : Option K) (g : K → Option S) (k : A → C → D → E → F → S → Option B) →
    (a >>= (λ x. c >>= (λ z. d >>= (λ w. e >>= (λ v. i >>= (λ u. (r >>= g) >>= k x z w v u)))))) ≡ (r >>= (λ y. a >>= (λ x. c >>= (λ z. d >>= (λ w. e >>= (λ v. i >>= (λ u. g y >>= k x z w v u)))))))
sixth a c d e i r g k =
    swap a r (λ x. c >>= (λ z. d >>= (λ w. e >>= (λ v. i >>= (λ u. (r >>= g) >>= k x z w v u))))) (λ y x. c >>= (λ z. d >>= (λ w. e >>= (λ v. i >>= (λ u. g y >>= k x z w v u)))))
    (λ x. fifth c d e i r g (k x))

seventh : {A C D E F G K S B : Type 0} (a : Option A) (c : Option C) (d : Option D) (e : Option E) (i : Option F) (j : Option G) (r : Option K) (g : K → Option S) (k : A → C → D → E → F → G → S → Option B) →
    (a >>= (λ x. c >>= (λ z. d >>= (λ w. e >>= (λ v. i >>= (λ u. j >>= (λ t. (r >>= g) >>= k x z w v u t)))))))
    ≡ (r >>= (λ y. a >>= (λ x. c >>= (λ z. d >>= (λ w. e >>= (λ v. i >>= (λ u. j >>= (λ t. g y >>= k x z w v u t))))))))
seventh a c d e i j r g k =
    swap a r (λ x. c >>= (λ z. d >>= (λ w. e >>= (λ v. i >>= (λ u. j >>= (λ t. (r >>= g) >>= k x z w v u t)))))) (λ y x. c >>= (λ z. d >>= (λ w. e >>= (λ v. i >>= (λ u. j >>= (λ t. g y >>= k x z w v u t))))))
    (λ x. sixth c d e i j r g (k x))

mapped : {A B C : Type 0} (h : A → B) (x : Option A) (f : B → Option C) → (option_map h x >>= f) ≡ (x >>= (λ y. f (h y)))
mapped h None f = refl
mapped h (Some y) f = refl

ends_in : {A B : Type 0} (h : A → B) (x : Option A) → (x >>= (λ y. Some (h y))) ≡ option_map h x
ends_in h None = refl
ends_in h (Some y) = refl

none_plain : (option : OptionName) (words : List (List ℕ)) → values_of option (map Plain words) ≡ []
none_plain option [] = refl
none_plain option (word ∷ words) = none_plain option words

all_plain : (words : List (List ℕ)) → plain_of (map Plain words) ≡ words
all_plain [] = refl
all_plain (word ∷ words) = ap (λ ws. word ∷ ws) (all_plain words)

none_more : (first : Option (List ℕ)) → one_in_all first [] ≡ Some first
none_more None = refl
none_more (Some value) = refl

-- a value in front of others
one_more : (first : Option (List ℕ)) (value : List ℕ) (values : List (List ℕ)) → one_in_all first (value ∷ values) ≡ (first_value first value >>= (λ kept. one_in_all kept values))
one_more None value [] = refl
one_more None value (other ∷ values) = refl
one_more (Some first) value values = refl

few_test : (xs ys : List (List ℕ)) (t : Bool) → nat_le (length xs) 9 ≡ t → few_words (xs ++ ys) ≡ ((if t then Some xs else None) >>= (λ zs. few_words (zs ++ ys)))
few_test xs ys true h = refl
few_test xs ys false h =
    let many : 9 < length xs = leb-false (length xs) 9 h in
    ap (λ t. if t then Some (xs ++ ys) else None) (lt-leb (length (xs ++ ys)) 9 (omega (arith, length-append xs ys, many)))

few-more : (xs ys : List (List ℕ)) → few_words (xs ++ ys) ≡ (few_words xs >>= (λ zs. few_words (zs ++ ys)))
few-more xs ys = few_test xs ys (nat_le (length xs) 9) refl

-- what is made of the values and words once the first of them are known
abbrev after_by : Found → List Item → Option (List ℕ) → Option (List ℕ) → Option (List ℕ) → Option (List ℕ) → Option (List ℕ) → Option (List ℕ) → Option Found
after_by found items limit slot slots order way by =
    few_words (found.plain ++ plain_of items) >>= (λ plain. Some (record { limit = limit; slot = slot; slots = slots; order = order; swap = way; by = by; plain = plain }))

abbrev after_swap : Found → List Item → Option (List ℕ) → Option (List ℕ) → Option (List ℕ) → Option (List ℕ) → Option (List ℕ) → Option Found
after_swap found items limit slot slots order way = one_in_all found.by (values_of By items) >>= after_by found items limit slot slots order way

abbrev after_order : Found → List Item → Option (List ℕ) → Option (List ℕ) → Option (List ℕ) → Option (List ℕ) → Option Found
after_order found items limit slot slots order = one_in_all found.swap (values_of Swap items) >>= after_swap found items limit slot slots order

abbrev after_slots : Found → List Item → Option (List ℕ) → Option (List ℕ) → Option (List ℕ) → Option Found
after_slots found items limit slot slots = one_in_all found.order (values_of Order items) >>= after_order found items limit slot slots

abbrev after_slot : Found → List Item → Option (List ℕ) → Option (List ℕ) → Option Found
after_slot found items limit slot = one_in_all found.slots (values_of Slots items) >>= after_slots found items limit slot

abbrev after_limit : Found → List Item → Option (List ℕ) → Option Found
after_limit found items limit = one_in_all found.slot (values_of Slot items) >>= after_slot found items limit

given : (found : Found) (option : OptionName) (value : List ℕ) (items : List Item) → with_items found (Given option value ∷ items) ≡ (with_value found option value >>= (λ more. with_items more items))
given found Limit value items =
    let kept = first_value found.limit value in
    let values = values_of Limit items in
    rw (one_more found.limit value values)
    (first kept (λ k. one_in_all k values) (after_limit found items) ∙ sym (mapped (λ limit. record found { limit = limit }) kept (λ more. with_items more items)))
given found Slot value items =
    let kept = first_value found.slot value in
    let values = values_of Slot items in
    rw (one_more found.slot value values)
    (second (one_in_all found.limit (values_of Limit items)) kept (λ k. one_in_all k values) (after_slot found items) ∙ sym (mapped (λ slot. record found { slot = slot }) kept (λ more. with_items more items)))
given found Slots value items =
    let kept = first_value found.slots value in
    let values = values_of Slots items in
    rw (one_more found.slots value values)
    (third (one_in_all found.limit (values_of Limit items)) (one_in_all found.slot (values_of Slot items)) kept (λ k. one_in_all k values) (after_slots found items)
    ∙ sym (mapped (λ slots. record found { slots = slots }) kept (λ more. with_items more items)))
given found Order value items =
    let kept = first_value found.order value in
    let values = values_of Order items in
    rw (one_more found.order value values)
    (fourth (one_in_all found.limit (values_of Limit items)) (one_in_all found.slot (values_of Slot items)) (one_in_all found.slots (values_of Slots items)) kept (λ k. one_in_all k values) (after_order found items)
    ∙ sym (mapped (λ order. record found { order = order }) kept (λ more. with_items more items)))
given found Swap value items =
    let kept = first_value found.swap value in
    let values = values_of Swap items in
    rw (one_more found.swap value values)
    (fifth (one_in_all found.limit (values_of Limit items)) (one_in_all found.slot (values_of Slot items)) (one_in_all found.slots (values_of Slots items)) (one_in_all found.order (values_of Order items)) kept (λ k. one_in_all k values) (after_swap found items)
    ∙ sym (mapped (λ way. record found { swap = way }) kept (λ more. with_items more items)))
given found By value items =
    let kept = first_value found.by value in
    let values = values_of By items in
    rw (one_more found.by value values)
    (sixth (one_in_all found.limit (values_of Limit items)) (one_in_all found.slot (values_of Slot items)) (one_in_all found.slots (values_of Slots items)) (one_in_all found.order (values_of Order items)) (one_in_all found.swap (values_of Swap items)) kept (λ k. one_in_all k values)
    (after_by found items)
    ∙ sym (mapped (λ by. record found { by = by }) kept (λ more. with_items more items)))

plain : (found : Found) (word : List ℕ) (items : List Item) → with_items found (Plain word ∷ items) ≡ (with_plain found (word ∷ []) >>= (λ more. with_items more items))
plain found word items =
    let words = found.plain ++ word ∷ [] in
    let e : few_words (found.plain ++ word ∷ plain_of items) ≡ (few_words words >>= (λ zs. few_words (zs ++ plain_of items))) =
    ap few_words (sym (append_assoc found.plain (word ∷ []) (plain_of items))) ∙ few-more words (plain_of items) in
    rw e
    (seventh (one_in_all found.limit (values_of Limit items)) (one_in_all found.slot (values_of Slot items)) (one_in_all found.slots (values_of Slots items)) (one_in_all found.order (values_of Order items)) (one_in_all found.swap (values_of Swap items))
    (one_in_all found.by (values_of By items)) (few_words words) (λ zs. few_words (zs ++ plain_of items))
    (λ limit slot slots order way by plain. Some (record { limit = limit; slot = slot; slots = slots; order = order; swap = way; by = by; plain = plain }))
    ∙ sym (mapped (λ plain. record found { plain = plain }) (few_words words) (λ more. with_items more items)))

ended : (found : Found) (words : List (List ℕ)) → with_items found (map Plain words) ≡ with_plain found words
ended found words =
    rw (none_plain Limit words, none_plain Slot words, none_plain Slots words, none_plain Order words, none_plain Swap words, none_plain By words, all_plain words, none_more found.limit, none_more found.slot, none_more found.slots, none_more found.order, none_more found.swap, none_more found.by)
    (ends_in (λ plain. record found { plain = plain }) (few_words (found.plain ++ words)))

pub at_end : (found : Found) → length found.plain ≤ 9 → with_words found [] ≡ Some found
unfolding with_words
at_end found few =
    let same = append-nil found.plain in
    rw (none_more found.limit, none_more found.slot, none_more found.slots, none_more found.order, none_more found.swap, none_more found.by, same, le-leb (length found.plain) 9 few) refl

-- the items of a word that reads so, and of the words behind it
abbrev items_at : List ℕ → List (List ℕ) → Reading → Option (List Item)
items_at word words Ends = Some (map Plain words)
items_at word words (Awaits option) = items_of (Some option) words
items_at word words (Gives option value) = in_front (Given option value) (items_of None words)
items_at word words Stands = in_front (Plain word) (items_of None words)
items_at word words Fails = None

with_given : (found : Found) (option : OptionName) (value : List ℕ) (words : List (List ℕ)) → (in_front (Given option value) (items_of None words) >>= with_items found) ≡ (with_value found option value >>= (λ more. with_words more words))
unfolding with_words
with_given found option value words =
    in_front-then (Given option value) (items_of None words) (with_items found)
    ∙ swap (items_of None words) (with_value found option value) (λ items. with_items found (Given option value ∷ items)) (λ more. with_items more) (given found option value)

with_word : (found : Found) (word : List ℕ) (words : List (List ℕ)) → (in_front (Plain word) (items_of None words) >>= with_items found) ≡ (with_plain found (word ∷ []) >>= (λ more. with_words more words))
unfolding with_words
with_word found word words =
    in_front-then (Plain word) (items_of None words) (with_items found)
    ∙ swap (items_of None words) (with_plain found (word ∷ [])) (λ items. with_items found (Plain word ∷ items)) (λ more. with_items more) (plain found word)

-- what a step says once it is known to give something, or nothing
pub on_some : {A B : Type 0} (r : Option A) (x : A) (f : A → Option B) (whole : Option B) → Some x ≡ r → whole ≡ (r >>= f) → f x ≡ whole
on_some r x f whole h e = sym (e ∙ ap (λ y. y >>= f) (sym h))

pub on_none : {A B : Type 0} (r : Option A) (f : A → Option B) (whole : Option B) → None ≡ r → whole ≡ (r >>= f) → None ≡ whole
on_none r f whole h e = sym (e ∙ ap (λ y. y >>= f) (sym h))

-- the words behind the first
abbrev pub behind : {A : Type 0} → List A → List A
behind words = take (length words - 1) (drop 1 words)

pub first_text : {A : Type 0} (text : A → List ℕ) (words : List A) (word : A) (bytes : List ℕ) → 1 ≤ length words → word ≡ get_or words 0 word → bytes ≡ text word →
    map text words ≡ bytes ∷ map text (behind words)
first_text text [] word bytes some is e = absurd (omega (arith, some))
first_text text (x ∷ xs) word bytes some is e =
    let short : length (x ∷ xs) - 1 ≡ length xs = omega arith in
    rw short (ap (λ y. y ∷ map text xs) (ap text (sym is) ∙ sym e) ∙ ap (λ ys. bytes ∷ map text ys) (sym (take-length xs)))

pub none_behind : {A : Type 0} (text : A → List ℕ) (words : List A) → length words < 1 → map text words ≡ []
none_behind text [] few = refl
none_behind text (x ∷ xs) few = absurd (omega (arith, few))

pub few_seen : (kept : PlainWords) → length (plain_seen kept) ≤ 9
few_seen kept =
    let most = kept.within in
    omega (arith, length-map (take kept.count kept.words) (λ word. word.now), length-take kept.count kept.words)

-- what was found, with other plain words
pub replaced : (found : Found) (words plain : List (List ℕ)) → Some plain ≡ few_words (found.plain ++ words) → Some (record found { plain = plain }) ≡ with_plain found words
replaced found words plain h = ap (option_map (λ p. record found { plain = p })) h

pub nothing : (found : Found) (words : List (List ℕ)) → None ≡ few_words (found.plain ++ words) → None ≡ with_plain found words
nothing found words h = ap (option_map (λ p. record found { plain = p })) h

-- what the first word adds, once it is known how it reads, and whether what it adds has a place
module _ (found : Found) (all rest : List (List ℕ)) (word : List ℕ) (begins : all ≡ word ∷ rest) where
  read_so : (reading : Reading) → reading_of word ≡ reading → with_words found all ≡ (items_at word rest reading >>= with_items found)
  unfolding with_words
  read_so reading e = ap (with_words found) begins ∙ ap (λ r. items_at word rest r >>= with_items found) e

  pub fails : reading_of word ≡ Fails → None ≡ with_words found all
  fails e = sym (read_so Fails e)

  pub ends-none : reading_of word ≡ Ends → None ≡ few_words (found.plain ++ rest) → None ≡ with_words found all
  ends-none e h = nothing found rest h ∙ sym (read_so Ends e ∙ ended found rest)

  pub ends-some : (kept : PlainWords) → reading_of word ≡ Ends → Some (plain_seen kept) ≡ few_words (found.plain ++ rest) → with_words (record found { plain = plain_seen kept }) [] ≡ with_words found all
  ends-some kept e h =
      let plain = plain_seen kept in
      at_end (record found { plain = plain }) (few_seen kept) ∙ replaced found rest plain h ∙ sym (read_so Ends e ∙ ended found rest)

  as_given : (option : OptionName) (value : List ℕ) → reading_of word ≡ Gives option value → with_words found all ≡ (with_value found option value >>= (λ more. with_words more rest))
  as_given option value e = read_so (Gives option value) e ∙ with_given found option value rest

  pub gives-none : (option : OptionName) (value : List ℕ) → reading_of word ≡ Gives option value → None ≡ with_value found option value → None ≡ with_words found all
  gives-none option value e h = on_none (with_value found option value) (λ more. with_words more rest) (with_words found all) h (as_given option value e)

  pub gives-some : (option : OptionName) (value : List ℕ) (now : Found) → reading_of word ≡ Gives option value → Some now ≡ with_value found option value → with_words now rest ≡ with_words found all
  gives-some option value now e h = on_some (with_value found option value) now (λ more. with_words more rest) (with_words found all) h (as_given option value e)

  as_plain : reading_of word ≡ Stands → with_words found all ≡ (with_plain found (word ∷ []) >>= (λ more. with_words more rest))
  as_plain e = read_so Stands e ∙ with_word found word rest

  pub stands-none : reading_of word ≡ Stands → None ≡ few_words (found.plain ++ word ∷ []) → None ≡ with_words found all
  stands-none e h = on_none (with_plain found (word ∷ [])) (λ more. with_words more rest) (with_words found all) (nothing found (word ∷ []) h) (as_plain e)

  pub stands-some : (plain : List (List ℕ)) → reading_of word ≡ Stands → Some plain ≡ few_words (found.plain ++ word ∷ []) → with_words (record found { plain = plain }) rest ≡ with_words found all
  stands-some plain e h =
      on_some (with_plain found (word ∷ [])) (record found { plain = plain }) (λ more. with_words more rest) (with_words found all) (replaced found (word ∷ []) plain h) (as_plain e)

  pub awaits-end : (option : OptionName) → reading_of word ≡ Awaits option → rest ≡ [] → None ≡ with_words found all
  awaits-end option e none = sym (read_so (Awaits option) e ∙ ap (λ ws. items_of (Some option) ws >>= with_items found) none)

  module _ (option : OptionName) (value : List ℕ) (after : List (List ℕ)) (next : rest ≡ value ∷ after) (e : reading_of word ≡ Awaits option) where
    as_awaited : with_words found all ≡ (with_value found option value >>= (λ more. with_words more after))
    as_awaited = read_so (Awaits option) e ∙ ap (λ ws. items_of (Some option) ws >>= with_items found) next ∙ with_given found option value after

    pub awaits-none : None ≡ with_value found option value → None ≡ with_words found all
    awaits-none h = on_none (with_value found option value) (λ more. with_words more after) (with_words found all) h as_awaited

    pub awaits-some : (now : Found) → Some now ≡ with_value found option value → with_words now after ≡ with_words found all
    awaits-some now h = on_some (with_value found option value) now (λ more. with_words more after) (with_words found all) h as_awaited

-- what is found among all words
pub all_words : (words : List (List ℕ)) → with_words nothing_found words ≡ (items_of None words >>= found_among)
unfolding with_words
all_words words = refl
