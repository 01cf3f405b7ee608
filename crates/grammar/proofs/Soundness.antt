-- What the machine finds is lawful and has the tokens that it was run on.
use Rattle.std.proofs.Common.{◌≡◌, ℕ, max, Bool, true, false, not, ◌&&◌, leb, List, [], ◌∷◌, length, is_some, Some, None, Option, sym, refl, ap, ◌∙◌, subst, append-nil, arith}
use Rattle.std.specs.List.{AllByRecursion}
use Rattle.std.proofs.lemmas.Bool.{false≢true, and_parts, leb-true}
use Rattle.tokens.specs.declared.token.TokenKind.{TokenKind}
use Rattle.tokens.specs.declared.token.TokenKind.TheVariants.{Word, Symbol, Open, Close}
use Rattle.tokens.specs.Tokens.{Lexeme, WellFormed}
use Rattle.notation.specs.declared.form.Position.TheVariants.{Before, After}
use Rattle.notation.specs.Operators.{Fixity}
use Rattle.notation.specs.Operators.Fixity.{prefix, postfix, between}
use Rattle.notation.specs.Tables.{Table, listed}
use Rattle.grammar.specs.declared.taker.Taker.{Taker}
use Rattle.grammar.specs.declared.taker.Taker.TheVariants.{Left, Right}
use Rattle.grammar.specs.Trees.{Bracketed}
use Rattle.grammar.specs.Weights.{fixity_in, operator_in, left_weight, right_weight, AdmitsLeft}
use Rattle.grammar.specs.Lawful.{Name, Lawful}
use Rattle.grammar.specs.Reading.{opening, closing, kind_of_spelling, sign, Formed, sign_of, lexemes}
use Rattle.grammar.specs.Neighbours.{taker}
use Rattle.grammar.specs.Machine.{Pending, Frame, State, start, function_of, completed, closed, ended, standing, decided, settled, is_name, begun, continued, operand_step, operator_step, step, run, outcome, accepted, MachineFindsOnlyLawful}
use Rattle.grammar.specs.Machine.Pending.{prefixing, infixing}
use Rattle.grammar.specs.Machine.Frame.{bracket, pending}
use Rattle.grammar.specs.Machine.State.{operand_due, operator_due, refused}
use Rattle.grammar.proofs.Signs.{word_kind, symbol_kind, opening_is, closing_is}
use Rattle.grammar.proofs.Tables.{listed_sign, listed_prefix}
use Rattle.grammar.proofs.Takers.{left_taker, right_taker}
use Rattle.grammar.proofs.Completeness.{followed, followed_is, Admits}

abbrev token : TokenKind → List ℕ → Lexeme
token k w = record { kind = k; bytes = w }

-- a token that is spelt as an operator is its sign
sign_token : (s w : List ℕ) (k : TokenKind) → s ≡ w → kind_of_spelling w ≡ k → sign s ≡ token k w
sign_token s w k e d = ap sign e ∙ ap (λ (j : TokenKind). token j w) d

none_is : (o : Option ℕ) → not (is_some o) ≡ true → o ≡ None
none_is None e = refl
none_is (Some f) e = cc

module _ (t : Table) where
  tested_name : (w : List ℕ) → WellFormed Word w → is_name t w ≡ true → Name t w
  unfolding is_name
  tested_name w h e =
      let all = and_parts (not (is_some (listed t Before w))) (not (is_some (listed t After w)) && leb (length w) 16) e in
      let others = and_parts (not (is_some (listed t After w))) (leb (length w) 16) all.1 in
      record { word = h; short = leb-true (length w) 16 others.1; before = none_is (listed t Before w) all.0; after = none_is (listed t After w) others.0 }

  admits_zero : (k : List Frame) → Admits t k 0
  admits_zero [] = tt
  admits_zero (bracket ∷ k) = tt
  admits_zero (pending u ∷ k) = omega arith

  -- Each operator that waits is lawful so far: it has its fixity and admits its left operand, and what waits below it
  -- admits the tree that it begins.
  abbrev Waits : List Frame → Type 0
  Waits [] = Unit {0}
  Waits (bracket ∷ k) = Waits k
  Waits (pending (prefixing f) ∷ k) = (fixity_in t f ≡ Some prefix) × Waits k
  Waits (pending (infixing f a) ∷ k) =
      (fixity_in t f ≡ Some between) × AdmitsLeft t f a × Lawful t a × Admits t k (max (operator_in t f).priority (left_weight t a)) × Waits k

  -- the tokens that led to the stack, and then the rest
  abbrev below : List Frame → List Lexeme → List Lexeme
  below [] rest = rest
  below (bracket ∷ k) rest = below k (opening ∷ rest)
  below (pending (prefixing f) ∷ k) rest = below k (sign_of t f ∷ rest)
  below (pending (infixing f a) ∷ k) rest = below k (followed t a (sign_of t f ∷ rest))

  -- Once what waits is lawful, so is a waiting operator with its right operand.
  completed_lawful : (u : Pending) (k : List Frame) (b : Bracketed) → Waits (pending u ∷ k) → Lawful t b → Admits t (pending u ∷ k) (left_weight t b) → Waits k × Lawful t (completed u b) × Admits t k (left_weight t (completed u b))
  completed_lawful (prefixing f) k b (x, w) l a = (w, (x, a, l), admits_zero k)
  completed_lawful (infixing f c) k b (x, h, m, r, w) l a = (w, (x, h, a, m, l), r)

  completed_below : (u : Pending) (k : List Frame) (b : Bracketed) (rest : List Lexeme) → below (pending u ∷ k) (followed t b rest) ≡ below k (followed t (completed u b) rest)
  completed_below (prefixing f) k b rest = refl
  completed_below (infixing f c) k b rest = refl

  completed_weight : (u : Pending) (b : Bracketed) → right_weight t (completed u b) ≡ max (operator_in t (function_of u)).priority (right_weight t b)
  completed_weight (prefixing f) b = refl
  completed_weight (infixing f c) b = refl

  -- `whole` is what was read, and then the rest
  module _ (whole : List Lexeme) where
    abbrev Held : List Lexeme → State → Type 0
    Held rest (operand_due k) = Waits k × (below k rest ≡ whole)
    Held rest (operator_due k b) = Waits k × Lawful t b × Admits t k (left_weight t b) × (right_weight t b ≡ 0) × (below k (followed t b rest) ≡ whole)
    Held rest refused = Unit {0}

    closed_held : (rest : List Lexeme) (k : List Frame) (b : Bracketed) → Waits k → Lawful t b → Admits t k (left_weight t b) → below k (followed t b (closing ∷ rest)) ≡ whole → Held rest (closed k b)
    closed_held rest [] b w l a e = tt
    closed_held rest (bracket ∷ k) b w l a e = (w, l, admits_zero k, refl, e)
    closed_held rest (pending u ∷ k) b w l a e =
        let (waits, law, room) = completed_lawful u k b w l a in closed_held rest k (completed u b) waits law room (sym (completed_below u k b (closing ∷ rest)) ∙ e)

    ended_held : (k : List Frame) (b c : Bracketed) → Waits k → Lawful t b → Admits t k (left_weight t b) → below k (followed t b []) ≡ whole → ended k b ≡ Some c → Lawful t c × (followed t c [] ≡ whole)
    ended_held [] b c w l a e h = let same : b ≡ c = cc in (subst (Lawful t) same l, ap (λ (x : Bracketed). followed t x []) (sym same) ∙ e)
    ended_held (bracket ∷ k) b c w l a e h = cc
    ended_held (pending u ∷ k) b c w l a e h =
        let (waits, law, room) = completed_lawful u k b w l a in ended_held k (completed u b) c waits law room (sym (completed_below u k b []) ∙ e) h

    decided_held : (rest : List Lexeme) (v : Option Taker) (further here : State) → (v ≡ Some Left → Held rest further) → (v ≡ Some Right → Held rest here) → Held rest (decided v further here)
    decided_held rest (Some Left) further here f h = f refl
    decided_held rest (Some Right) further here f h = h refl
    decided_held rest None further here f h = tt

    standing_held : (rest : List Lexeme) (x : Option Fixity) (f : ℕ) (k : List Frame) (b : Bracketed) → fixity_in t f ≡ x → Waits k → Lawful t b → Admits t k (max (operator_in t f).priority (left_weight t b)) → AdmitsLeft t f b → below k (followed t b (sign_of t f ∷ rest)) ≡ whole → Held rest (standing x f k b)
    standing_held rest None f k b x w l a r e = tt
    standing_held rest (Some prefix) f k b x w l a r e = tt
    standing_held rest (Some postfix) f k b x w l a r e = (w, (x, r, l), a, refl, e)
    standing_held rest (Some between) f k b x w l a r e = ((x, r, l, a, w), e)

    settled_held : (rest : List Lexeme) (f : ℕ) (k : List Frame) (b : Bracketed) → Waits k → Lawful t b → Admits t k (left_weight t b) → AdmitsLeft t f b → below k (followed t b (sign_of t f ∷ rest)) ≡ whole → Held rest (settled t f k b)
    settled_held rest f [] b w l a r e = standing_held rest (fixity_in t f) f [] b refl w l tt r e
    settled_held rest f (bracket ∷ k) b w l a r e = standing_held rest (fixity_in t f) f (bracket ∷ k) b refl w l tt r e
    settled_held rest f (pending u ∷ k) b w l a r e =
        let o = operator_in t f in
        let v = operator_in t (function_of u) in
        let (waits, law, room) = completed_lawful u k b w l a in
        decided_held rest (taker v o) (settled t f k (completed u b)) (standing (fixity_in t f) f (pending u ∷ k) b)
        (λ d. settled_held rest f k (completed u b) waits law room (omega (arith, left_taker v o d, completed_weight u b)) (sym (completed_below u k b (sign_of t f ∷ rest)) ∙ e))
        (λ d. standing_held rest (fixity_in t f) f (pending u ∷ k) b refl w l (omega (arith, right_taker v o d)) r e)

    begun_held : (rest : List Lexeme) (kind : TokenKind) (s : List ℕ) (o : Option ℕ) (n : Bool) (k : List Frame) → kind_of_spelling s ≡ kind → listed t Before s ≡ o → (n ≡ true → Name t s × (kind ≡ Word)) → Waits k → below k (token kind s ∷ rest) ≡ whole → Held rest (begun s o n k)
    begun_held rest kind s (Some f) n k d h m w e =
        ((listed_prefix t s f h, w), ap (λ (x : Lexeme). below k (x ∷ rest)) (sign_token (operator_in t f).spelling s kind (listed_sign t Before s f h).spelt d) ∙ e)
    begun_held rest kind s None true k d h m w e = let name = m refl in (w, name.0, admits_zero k, refl, ap (λ (j : TokenKind). below k (token j s ∷ rest)) (sym name.1) ∙ e)
    begun_held rest kind s None false k d h m w e = tt

    continued_held : (rest : List Lexeme) (kind : TokenKind) (s : List ℕ) (o : Option ℕ) (k : List Frame) (b : Bracketed) → kind_of_spelling s ≡ kind → listed t After s ≡ o → Held (token kind s ∷ rest) (operator_due k b) → Held rest (continued t o k b)
    continued_held rest kind s (Some f) k b d h (w, l, a, r, e) =
        settled_held rest f k b w l a (omega arith) (ap (λ (x : Lexeme). below k (followed t b (x ∷ rest))) (sign_token (operator_in t f).spelling s kind (listed_sign t After s f h).spelt d) ∙ e)
    continued_held rest kind s None k b d h held = tt

    operand_held : (rest : List Lexeme) (kind : TokenKind) (s : List ℕ) (k : List Frame) → WellFormed kind s → Held (token kind s ∷ rest) (operand_due k) → Held rest (operand_step t kind s k)
    operand_held rest Word s k h (w, e) = begun_held rest Word s (listed t Before s) (is_name t s) k (word_kind s h) refl (λ n. (tested_name s h n, refl)) w e
    operand_held rest Symbol s k h (w, e) = begun_held rest Symbol s (listed t Before s) false k (symbol_kind s h) refl (λ n. absurd (false≢true n)) w e
    operand_held rest Open s k h (w, e) = (w, ap (λ (v : List ℕ). below k (token Open v ∷ rest)) (sym (opening_is s h)) ∙ e)
    operand_held rest Close s k h held = tt

    operator_held : (rest : List Lexeme) (kind : TokenKind) (s : List ℕ) (k : List Frame) (b : Bracketed) → WellFormed kind s → Held (token kind s ∷ rest) (operator_due k b) → Held rest (operator_step t kind s k b)
    operator_held rest Word s k b h held = continued_held rest Word s (listed t After s) k b (word_kind s h) refl held
    operator_held rest Symbol s k b h held = continued_held rest Symbol s (listed t After s) k b (symbol_kind s h) refl held
    operator_held rest Open s k b h held = tt
    operator_held rest Close s k b h (w, l, a, r, e) = closed_held rest k b w l a (ap (λ (v : List ℕ). below k (followed t b (token Close v ∷ rest))) (sym (closing_is s h)) ∙ e)

    step_held : (rest : List Lexeme) (st : State) (x : Lexeme) → Formed x → Held (x ∷ rest) st → Held rest (step t st x)
    step_held rest (operand_due k) x h held = operand_held rest x.kind x.bytes k h held
    step_held rest (operator_due k b) x h held = operator_held rest x.kind x.bytes k b h held
    step_held rest refused x h held = tt

    run_held : (xs : List Lexeme) (st : State) → AllByRecursion Formed xs → Held xs st → Held [] (run t st xs)
    run_held [] st h held = held
    run_held (x ∷ xs) st h held = run_held xs (step t st x) h.1 (step_held xs st x h.0 held)

    outcome_held : (st : State) (b : Bracketed) → Held [] st → outcome st ≡ Some b → Lawful t b × (followed t b [] ≡ whole)
    outcome_held (operand_due k) b held e = cc
    outcome_held (operator_due k a) b (w, l, m, r, d) e = ended_held k a b w l m d e
    outcome_held refused b held e = cc

  pub finds_only : (xs : List Lexeme) → AllByRecursion Formed xs → (b : Bracketed) → accepted t xs ≡ Some b → Lawful t b × (lexemes t b ≡ xs)
  finds_only xs h b e =
      let (l, d) = outcome_held xs (run t start xs) b (run_held xs xs start h (tt, refl)) e in (l, sym (append-nil (lexemes t b)) ∙ sym (followed_is t b []) ∙ d)

pub machine_finds_only_lawful : MachineFindsOnlyLawful
machine_finds_only_lawful t lawful = finds_only t
