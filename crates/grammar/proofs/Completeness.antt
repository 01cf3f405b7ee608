-- The machine finds every lawful bracketed tree, so a text has one at most.
use Rattle.std.proofs.Common.{◌≡◌, ℕ, ◌≤◌, Bool, true, false, not, ◌&&◌, leb, List, [], ◌∷◌, ◌++◌, length, is_some, Some, None, Option, sym, refl, ap, ◌∙◌, ⊎_elim, append_assoc, append-nil, arith}
use Rattle.std.proofs.lemmas.Bool.{and_from, le-leb}
use Rattle.tokens.specs.declared.token.TokenKind.{TokenKind}
use Rattle.tokens.specs.Tokens.{Lexeme}
use Rattle.notation.specs.declared.form.Position.TheVariants.{Before, After}
use Rattle.notation.specs.Operators.{Fixity, position_in}
use Rattle.notation.specs.Operators.Fixity.{prefix, postfix, between}
use Rattle.notation.specs.Tables.{Table, LawfulTable, listed}
use Rattle.grammar.specs.declared.taker.Taker.{Taker}
use Rattle.grammar.specs.Trees.{Bracketed}
use Rattle.grammar.specs.Trees.Bracketed.{named, pair, prefixed, postfixed, infixed}
use Rattle.grammar.specs.Weights.{fixity_in, operator_in, left_limit, right_limit, left_weight, right_weight}
use Rattle.grammar.specs.Lawful.{Name, Lawful}
use Rattle.grammar.specs.Reading.{word, opening, closing, kind_of_spelling, sign_of, lexemes}
use Rattle.grammar.specs.Machine.{Frame, State, function_of, completed, closed, ended, standing, decided, settled, is_name, begun, continued, operand_step, operator_step, step, run, outcome, accepted, MachineFindsAll}
use Rattle.grammar.specs.Machine.Pending.{prefixing, infixing}
use Rattle.grammar.specs.Machine.Frame.{bracket, pending}
use Rattle.grammar.specs.Machine.State.{operand_due, operator_due}
use Rattle.grammar.proofs.Signs.{kind_cases}
use Rattle.grammar.proofs.Tables.{sign_listed, never_both}
use Rattle.grammar.proofs.Takers.{taker_left, taker_right}

-- The stack after b on the stack k, and what is then current: the operators down b's right side wait.
abbrev pub spine : Bracketed → List Frame → List Frame
spine (named w) k = k
spine (pair b) k = k
spine (prefixed f b) k = spine b (pending (prefixing f) ∷ k)
spine (postfixed f a) k = k
spine (infixed f a b) k = spine b (pending (infixing f a) ∷ k)

abbrev pub tip : Bracketed → Bracketed
tip (named w) = named w
tip (pair b) = pair b
tip (prefixed f b) = tip b
tip (postfixed f a) = postfixed f a
tip (infixed f a b) = tip b

closed_spine : (b : Bracketed) (k : List Frame) → closed (spine b k) (tip b) ≡ closed k b
closed_spine (named w) k = refl
closed_spine (pair b) k = refl
closed_spine (prefixed f b) k = closed_spine b (pending (prefixing f) ∷ k)
closed_spine (postfixed f a) k = refl
closed_spine (infixed f a b) k = closed_spine b (pending (infixing f a) ∷ k)

ended_spine : (b : Bracketed) (k : List Frame) → ended (spine b k) (tip b) ≡ ended k b
ended_spine (named w) k = refl
ended_spine (pair b) k = refl
ended_spine (prefixed f b) k = ended_spine b (pending (prefixing f) ∷ k)
ended_spine (postfixed f a) k = refl
ended_spine (infixed f a b) k = ended_spine b (pending (infixing f a) ∷ k)

module _ (t : Table) where
  -- the tokens of b, and then the rest
  abbrev pub followed : Bracketed → List Lexeme → List Lexeme
  followed (named w) rest = word w ∷ rest
  followed (pair b) rest = opening ∷ followed b (closing ∷ rest)
  followed (prefixed f b) rest = sign_of t f ∷ followed b rest
  followed (postfixed f a) rest = followed a (sign_of t f ∷ rest)
  followed (infixed f a b) rest = followed a (sign_of t f ∷ followed b rest)

  pub followed_is : (b : Bracketed) (rest : List Lexeme) → followed b rest ≡ lexemes t b ++ rest
  followed_is (named w) rest = refl
  followed_is (pair b) rest = ap (λ (l : List Lexeme). opening ∷ l) (followed_is b (closing ∷ rest) ∙ sym (append_assoc (lexemes t b) (closing ∷ []) rest))
  followed_is (prefixed f b) rest = ap (λ (l : List Lexeme). sign_of t f ∷ l) (followed_is b rest)
  followed_is (postfixed f a) rest = followed_is a (sign_of t f ∷ rest) ∙ sym (append_assoc (lexemes t a) (sign_of t f ∷ []) rest)
  followed_is (infixed f a b) rest =
      followed_is a (sign_of t f ∷ followed b rest)
      ∙ ap (λ (l : List Lexeme). lexemes t a ++ (sign_of t f ∷ l)) (followed_is b rest)
      ∙ sym (append_assoc (lexemes t a) (sign_of t f ∷ lexemes t b) rest)

  -- what waits on the stack admits a left weight w
  abbrev pub Admits : List Frame → ℕ → Type 0
  Admits [] w = Unit {0}
  Admits (bracket ∷ k) w = Unit {0}
  Admits (pending u ∷ k) w = w ≤ right_limit (operator_in t (function_of u))

  pub admits_less : (k : List Frame) (v w : ℕ) → v ≤ w → Admits k w → Admits k v
  admits_less [] v w h a = tt
  admits_less (bracket ∷ k) v w h a = tt
  admits_less (pending u ∷ k) v w h a = omega arith

  -- the operators down b's right side all take their operand when f's operator comes
  settled_spine : (f : ℕ) (b : Bracketed) (k : List Frame) → right_weight t b ≤ left_limit (operator_in t f) → settled t f (spine b k) (tip b) ≡ settled t f k b
  settled_spine f (named w) k h = refl
  settled_spine f (pair b) k h = refl
  settled_spine f (prefixed g b) k h =
      settled_spine f b (pending (prefixing g) ∷ k) (omega arith)
      ∙ ap (λ (v : Option Taker). decided v (settled t f k (prefixed g b)) (standing (fixity_in t f) f (pending (prefixing g) ∷ k) b)) (taker_left (operator_in t g) (operator_in t f) (omega arith))
  settled_spine f (postfixed g a) k h = refl
  settled_spine f (infixed g a b) k h =
      settled_spine f b (pending (infixing g a) ∷ k) (omega arith)
      ∙ ap (λ (v : Option Taker). decided v (settled t f k (infixed g a b)) (standing (fixity_in t f) f (pending (infixing g a) ∷ k) b)) (taker_left (operator_in t g) (operator_in t f) (omega arith))

  -- a sign where an operand is due, and where an operator is due
  operand_sign : (s : List ℕ) (f : ℕ) (k : List Frame) → listed t Before s ≡ Some f → operand_step t (kind_of_spelling s) s k ≡ operand_due (pending (prefixing f) ∷ k)
  operand_sign s f k l =
      ⊎_elim
      (λ e. ap (λ (v : TokenKind). operand_step t v s k) e ∙ ap (λ (v : Option ℕ). begun s v (is_name t s) k) l)
      (λ e. ap (λ (v : TokenKind). operand_step t v s k) e ∙ ap (λ (v : Option ℕ). begun s v false k) l)
      (kind_cases s)

  operator_sign : (s : List ℕ) (f : ℕ) (k : List Frame) (b : Bracketed) → listed t After s ≡ Some f → operator_step t (kind_of_spelling s) s k b ≡ settled t f k b
  operator_sign s f k b l =
      ⊎_elim
      (λ e. ap (λ (v : TokenKind). operator_step t v s k b) e ∙ ap (λ (v : Option ℕ). continued t v k b) l)
      (λ e. ap (λ (v : TokenKind). operator_step t v s k b) e ∙ ap (λ (v : Option ℕ). continued t v k b) l)
      (kind_cases s)

  name_tested : (w : List ℕ) → Name t w → is_name t w ≡ true
  unfolding is_name
  name_tested w n =
      and_from (not (is_some (listed t Before w))) (not (is_some (listed t After w)) && leb (length w) 16) (ap (λ (v : Option ℕ). not (is_some v)) n.before)
      (and_from (not (is_some (listed t After w))) (leb (length w) 16) (ap (λ (v : Option ℕ). not (is_some v)) n.after) (le-leb (length w) 16 n.short))

  pub step_name : (w : List ℕ) (k : List Frame) → Name t w → step t (operand_due k) (word w) ≡ operator_due k (named w)
  step_name w k n = ap (λ (v : Option ℕ). begun w v (is_name t w) k) n.before ∙ ap (λ (v : Bool). begun w None v k) (name_tested w n)

  module _ (lawful : LawfulTable t) where
    -- an operator that the stack admits takes what is left of it
    settled_here : (f : ℕ) (k : List Frame) (b : Bracketed) → Admits k (operator_in t f).priority → settled t f k b ≡ standing (fixity_in t f) f k b
    settled_here f [] b a = refl
    settled_here f (bracket ∷ k) b a = refl
    settled_here f (pending u ∷ k) b a =
        ap (λ (v : Option Taker). decided v (settled t f k (completed u b)) (standing (fixity_in t f) f (pending u ∷ k) b))
        (taker_right (operator_in t (function_of u)) (operator_in t f) (λ h. never_both t lawful (function_of u) f h a) a)

    step_after : (f : ℕ) (x : Fixity) (b : Bracketed) (k : List Frame) → fixity_in t f ≡ Some x → position_in x ≡ After → Admits k (operator_in t f).priority → right_weight t b ≤ left_limit (operator_in t f) → step t (operator_due (spine b k) (tip b)) (sign_of t f) ≡ standing (Some x) f k b
    step_after f x b k e p a h =
        operator_sign (operator_in t f).spelling f (spine b k) (tip b) (ap (λ q. listed t q (operator_in t f).spelling) (sym p) ∙ sign_listed t lawful f x e)
        ∙ settled_spine f b k h
        ∙ settled_here f k b a
        ∙ ap (λ (v : Option Fixity). standing v f k b) e

    -- from where an operand is due, the tokens of b lead to where an operator is due after b
    pub finds : (b : Bracketed) (k : List Frame) (rest : List Lexeme) → Lawful t b → Admits k (left_weight t b) → run t (operand_due k) (followed b rest) ≡ run t (operator_due (spine b k) (tip b)) rest
    finds (named w) k rest l a = ap (λ (st : State). run t st rest) (step_name w k l)
    finds (pair b) k rest l a = finds b (bracket ∷ k) (closing ∷ rest) l tt ∙ ap (λ (st : State). run t st rest) (closed_spine b (bracket ∷ k))
    finds (prefixed f b) k rest l a =
        ap (λ (st : State). run t st (followed b rest)) (operand_sign (operator_in t f).spelling f k (sign_listed t lawful f prefix l.0))
        ∙ finds b (pending (prefixing f) ∷ k) rest l.2 l.1
    finds (postfixed f b) k rest l a =
        finds b k (sign_of t f ∷ rest) l.2 (admits_less k (left_weight t b) (left_weight t (postfixed f b)) (omega arith) a)
        ∙ ap (λ (st : State). run t st rest) (step_after f postfix b k l.0 refl (admits_less k (operator_in t f).priority (left_weight t (postfixed f b)) (omega arith) a) l.1)
    finds (infixed f b c) k rest l a =
        finds b k (sign_of t f ∷ followed c rest) l.3 (admits_less k (left_weight t b) (left_weight t (infixed f b c)) (omega arith) a)
        ∙ ap (λ (st : State). run t st (followed c rest)) (step_after f between b k l.0 refl (admits_less k (operator_in t f).priority (left_weight t (infixed f b c)) (omega arith) a) l.1)
        ∙ finds c (pending (infixing f b) ∷ k) rest l.4 l.2

    pub finds_all : (b : Bracketed) → Lawful t b → accepted t (lexemes t b) ≡ Some b
    finds_all b l =
        ap (accepted t) (sym (followed_is b [] ∙ append-nil (lexemes t b))) ∙ ap outcome (finds b [] [] l tt) ∙ ended_spine b []

pub machine_finds_all : MachineFindsAll
machine_finds_all t lawful = finds_all t lawful
