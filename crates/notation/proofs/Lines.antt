-- A line has its fields in one way only, and a number its value. Assumes nothing.
use Rattle.std.proofs.Common.{◌≡◌, ℕ, ◌+◌, ◌-◌, ◌*◌, ◌^◌, ◌<◌, ◌≤◌, true, cond, leb, List, [], ◌∷◌, ◌++◌, length, get_or, take, drop, Some, Option, sym, refl, ap, ◌∙◌, subst, mul-le-mul_right, mul_assoc, pow-suc, add-one, arith}
use native.Mathlib.Nat.{pow-le-pow_right}
use Rattle.std.specs.List.{AllByRecursion, AllWithin, HoldsAt}
use Rattle.std.specs.Str.{bytes_eq}
use Rattle.std.proofs.ByRecursion.{All-from_get_or}
use Rattle.std.proofs.lemmas.List.{take-append-drop, drop_more, take_rest, length_push, length-take-le, get_or-take}
use Rattle.std.proofs.lemmas.Bool.{and_parts, leb-true}
use Rattle.tokens.specs.Bytes.{is_digit}
use Rattle.notation.specs.declared.form.Form.{Form}
use Rattle.notation.specs.declared.form.Form.TheVariants.{Fx, Fy, Xf, Yf, Xfx, Xfy, Yfx}
use Rattle.notation.specs.Lines.{Field, Fields, Parted, decimal, Number, Said, Says, word_of}

abbrev pub Spaceless : List ℕ → Type 0
Spaceless bytes = AllByRecursion (λ b. b ≡ 32 → ⊥) bytes

-- what stands before a first space, and after it
pub same_split : (x u y v : List ℕ) → Spaceless x → Spaceless u → x ++ (32 ∷ y) ≡ u ++ (32 ∷ v) → (x ≡ u) × (y ≡ v)
same_split [] [] y v p q e = (refl, cc)
same_split [] (b ∷ u) y v p q e = let head : b ≡ 32 = cc in absurd (q.0 head)
same_split (a ∷ x) [] y v p q e = let head : a ≡ 32 = cc in absurd (p.0 head)
same_split (a ∷ x) (b ∷ u) y v p q e =
    let head : a ≡ b = cc in
    let tail : x ++ (32 ∷ y) ≡ u ++ (32 ∷ v) = cc in
    let rest = same_split x u y v p.1 q.1 tail in
    (λ i. head i ∷ rest.0 i, rest.1)

pub no_space : (x y : List ℕ) → Spaceless (x ++ (32 ∷ y)) → ⊥
no_space [] y p = p.0 refl
no_space (a ∷ x) y p = no_space x y p.1

-- the text, split at a space
pub split_at : (text : List ℕ) (i : ℕ) → i < length text → get_or text i 0 ≡ 32 → text ≡ take i text ++ (32 ∷ drop (i + 1) text)
split_at text i lt is = sym (take-append-drop i text) ∙ ap (λ (l : List ℕ). take i text ++ l) (drop_more text i 0 lt ∙ ap (λ b. b ∷ drop (i + 1) text) is)

pub no_field : (text : List ℕ) → AllWithin (λ b. b ≡ 32 → ⊥) text 0 (length text) → (x y : List ℕ) → text ≡ x ++ (32 ∷ y) → ⊥
no_field text none x y e = no_space x y (subst Spaceless e (All-from_get_or (λ b. b ≡ 32 → ⊥) text 0 (λ i lt. none i 0 (omega arith) lt)))

-- a field ends at the first space, and the rest begins after it, as slices of the text
pub field_at : (text : List ℕ) (i : ℕ) → (i ≡ 0 → ⊥) → (i < length text) × HoldsAt (λ b. b ≡ 32) text i × AllWithin (λ b. b ≡ 32 → ⊥) text 0 i → Field (take i text) × (text ≡ take i text ++ (32 ∷ take (length text - (i + 1)) (drop (i + 1) text)))
field_at text i some (lt, is, before) =
    let size : length (take i text) ≡ i = length-take-le i text (omega arith) in (
      record {
        some = omega (arith, size, some);
        spaceless = All-from_get_or (λ b. b ≡ 32 → ⊥) (take i text) 0 (λ k below. let within : k < i = omega arith in rw (get_or-take i text k 0 within) (before k 0 (omega arith) within));
      },
      split_at text i lt (is 0) ∙ λ k. take i text ++ (32 ∷ sym (take_rest text (i + 1)) k),
    )

-- the field that a text begins with, and the rest, in one way only
pub one_field : (text f rest g more : List ℕ) → Field f → text ≡ f ++ (32 ∷ rest) → Field g → text ≡ g ++ (32 ∷ more) → (g ≡ f) × (more ≡ rest)
one_field text f rest g more p e q d = same_split g f more rest q.spaceless p.spaceless (sym d ∙ e)

abbrev NoField : List ℕ → Type 0
NoField text = (x y : List ℕ) → Field x → text ≡ x ++ (32 ∷ y) → ⊥

-- fields taken off a line one by one
module _ (line f after-f : List ℕ) (first : Field f) (begins : line ≡ f ++ (32 ∷ after-f)) where
  from_second : (x : Fields) → Parted line x → x.priority ++ (32 ∷ (x.word ++ (32 ∷ x.spelling))) ≡ after-f
  from_second x h = (one_field line f after-f x.function _ first begins h.function h.whole).1

  pub no_second : NoField after-f → (x : Fields) → Parted line x → ⊥
  no_second none x h = none x.priority _ h.priority (sym (from_second x h))

  module _ (p after-p : List ℕ) (second : Field p) (goes_on : after-f ≡ p ++ (32 ∷ after-p)) where
    from_third : (x : Fields) → Parted line x → x.word ++ (32 ∷ x.spelling) ≡ after-p
    from_third x h = (one_field after-f p after-p x.priority _ second goes_on h.priority (sym (from_second x h))).1

    pub no_third : NoField after-p → (x : Fields) → Parted line x → ⊥
    no_third none x h = none x.word _ h.word (sym (from_third x h))

    module _ (w s : List ℕ) (third : Field w) (ends : after-p ≡ w ++ (32 ∷ s)) where
      pub no_fourth : (Field s → ⊥) → (x : Fields) → Parted line x → ⊥
      no_fourth none x h = none (subst Field (one_field after-p w s x.word x.spelling third ends h.word (sym (from_third x h))).1 h.spelling)

pub parted_one : (line : List ℕ) (x y : Fields) → Parted line x → Parted line y → x ≡ y
parted_one line x y p q =
    let one = one_field line x.function _ y.function _ p.function p.whole q.function q.whole in
    let two = one_field _ x.priority _ y.priority _ p.priority refl q.priority (sym one.1) in
    let three = one_field _ x.word _ y.word _ p.word refl q.word (sym two.1) in
    let f = sym one.0 in
    let p = sym two.0 in
    let w = sym three.0 in
    let s = sym three.1 in
    λ i. record { function = f i; priority = p i; word = w i; spelling = s i }

-- decimal numbers
digit_low : (b : ℕ) → is_digit b ≡ true → 48 ≤ b
digit_low b e = leb-true 48 b (and_parts (leb 48 b) (leb b 57) e).0

digit_high : (b : ℕ) → is_digit b ≡ true → b ≤ 57
digit_high b e = leb-true b 57 (and_parts (leb 48 b) (leb b 57) e).1

-- one digit more
pub decimal_push : (ds : List ℕ) (d : ℕ) → decimal (ds ++ d ∷ []) ≡ decimal ds * 10 + (d - 48)
decimal_push [] d = omega arith
decimal_push (x ∷ xs) d =
    let more : 10 ^ length (xs ++ d ∷ []) ≡ 10 ^ length xs * 10 = ap (λ n. 10 ^ n) (length_push xs d ∙ add-one (length xs)) ∙ pow-suc 10 (length xs) in
    let first : (x - 48) * 10 ^ length (xs ++ d ∷ []) ≡ (x - 48) * 10 ^ length xs * 10 = ap (λ n. (x - 48) * n) more ∙ sym (mul_assoc (x - 48) (10 ^ length xs) 10) in
    omega (arith, first, decimal_push xs d)

pub decimal_lt : (ds : List ℕ) → AllByRecursion (λ b. is_digit b ≡ true) ds → decimal ds < 10 ^ length ds
decimal_lt [] h = omega arith
decimal_lt (x ∷ xs) h =
    let small : x - 48 ≤ 9 = omega (arith, digit_high x h.0) in
    omega (arith, pow-suc 10 (length xs), mul-le-mul_right (10 ^ length xs) small, decimal_lt xs h.1)

-- a number of fewer than four digits
pub decimal_small : (ds : List ℕ) → AllByRecursion (λ b. is_digit b ≡ true) ds → length ds ≤ 3 → decimal ds < 1000
decimal_small ds h few = let ten : 0 < 10 = omega arith in omega (arith, decimal_lt ds h, pow-le-pow_right ten few)

pub small_front : (ds : List ℕ) (i : ℕ) → i < length ds → length ds ≤ 4 → length (take i ds) ≤ 3
small_front ds i lt few = let size = length-take-le i ds (omega arith) in omega arith

pub number_one : (ds : List ℕ) (m n : ℕ) → Number ds m → Number ds n → m ≡ n
number_one ds m n p q = p.value ∙ sym q.value

-- What a line says, in one way only.
pub says_one : (line : List ℕ) (c d : Said) → Says line c → Says line d → c ≡ d
says_one line c d p q =
    let same = parted_one line p.fields q.fields p.parted q.parted in
    let f = number_one _ _ _ p.function (subst (λ (x : Fields). Number x.function d.function) (sym same) q.function) in
    let r = number_one _ _ _ p.priority (subst (λ (x : Fields). Number x.priority d.priority) (sym same) q.priority) in
    let w = p.word ∙ ap (λ (x : Fields). x.word) same ∙ sym q.word in
    let s = p.spelling ∙ ap (λ (x : Fields). x.spelling) same ∙ sym q.spelling in
    λ i. record { function = f i; priority = r i; word = w i; spelling = s i }

-- the type that a word names
named : List ℕ → Option Form
named w =
    cond (bytes_eq (word_of Fx) w) (Some Fx)
    (cond (bytes_eq (word_of Fy) w) (Some Fy)
    (cond (bytes_eq (word_of Xf) w) (Some Xf)
    (cond (bytes_eq (word_of Yf) w) (Some Yf)
    (cond (bytes_eq (word_of Xfx) w) (Some Xfx) (cond (bytes_eq (word_of Xfy) w) (Some Xfy) (Some Yfx))))))

named_word : (m : Form) → named (word_of m) ≡ Some m
unfolding named
named_word Fx = refl
named_word Fy = refl
named_word Xf = refl
named_word Yf = refl
named_word Xfx = refl
named_word Xfy = refl
named_word Yfx = refl

pub word_one : (m n : Form) → word_of m ≡ word_of n → m ≡ n
word_one m n e = let same = sym (named_word m) ∙ ap named e ∙ named_word n in cc
