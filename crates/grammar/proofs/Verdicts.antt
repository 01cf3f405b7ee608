-- Two verdicts that hold of a text are the same.
use Rattle.std.proofs.Common.{◌≡◌, ℕ, ◌⊎◌, List, [], ◌∷◌, ◌++◌, map, sym, refl, ap, ◌∙◌, subst, inl, inr, ⊎_elim, append_assoc, append-nil}
use Rattle.std.proofs.lemmas.List.{map-append, map_push}
use Rattle.tokens.specs.Spacing.{lexemes_of}
use Rattle.tokens.specs.Tokens.{Lexeme, Placed, lexeme, tokens_of}
use Rattle.notation.specs.Tables.{Table, LawfulTable}
use Rattle.grammar.specs.Trees.{Tree}
use Rattle.grammar.specs.Reading.{Reads}
use Rattle.grammar.specs.Beginnings.{Live}
use Rattle.grammar.specs.Verdicts.{Verdict, FailsAt, Holds, OneVerdict}
use Rattle.grammar.specs.Verdicts.Verdict.{reads, fails_at, fails_at_end}
use Rattle.grammar.specs.Refusals.{answer, OneAnswer}
use Rattle.grammar.proofs.Uniqueness.{at_most_one_tree}
use Rattle.grammar.proofs.Judging.{judged, judged_holds}

-- xs begins with ys
abbrev Begins : List Placed → List Placed → Type 0
Begins xs ys = (more : List Placed) × (xs ≡ ys ++ more)

-- two tokens of a list: the same one, or the tokens up to one of them come before the other
abbrev Places : List Placed → Placed → List Placed → Placed → Type 0
Places f x g y = ((f ≡ g) × (x ≡ y)) ⊎ (Begins g (f ++ (x ∷ [])) ⊎ Begins f (g ++ (y ∷ [])))

places_further : (a b : Placed) (f g : List Placed) (x y : Placed) → a ≡ b → Places f x g y → Places (a ∷ f) x (b ∷ g) y
places_further a b f g x y e (inl (p, q)) = inl ((cc), q)
places_further a b f g x y e (inr (inl (more, p))) = inr (inl (more, (cc)))
places_further a b f g x y e (inr (inr (more, p))) = inr (inr (more, (cc)))

places : (f g : List Placed) (x y : Placed) (r s : List Placed) → f ++ (x ∷ r) ≡ g ++ (y ∷ s) → Places f x g y
places [] [] x y r s e = inl (refl, (cc))
places [] (b ∷ g) x y r s e = inr (inl (g, (cc)))
places (a ∷ f) [] x y r s e = inr (inr (f, (cc)))
places (a ∷ f) (b ∷ g) x y r s e = let rest : f ++ (x ∷ r) ≡ g ++ (y ∷ s) = cc in let first : a ≡ b = cc in places_further a b f g x y first (places f g x y r s rest)

module _ (t : Table) where
  live_front : (front more : List Lexeme) → Live t (front ++ more) → Live t front
  live_front front more l = record { text = l.text; more = more ++ l.more; tree = l.tree; begins = l.begins ∙ append_assoc front more l.more; reads = l.reads }

  -- what begins with a failing token's beginning is not live
  not_live : (text : List ℕ) (front : List Placed) (x : Placed) → FailsAt t text front x → (xs : List Placed) → Begins xs (front ++ (x ∷ [])) → Live t (map lexeme xs) → ⊥
  not_live text front x h xs (more, e) l =
      let split : map lexeme xs ≡ (map lexeme front ++ (lexeme x ∷ [])) ++ map lexeme more = ap (map lexeme) e ∙ map-append lexeme (front ++ (x ∷ [])) more ∙ ap (λ (ys : List Lexeme). ys ++ map lexeme more) (map_push lexeme front x) in
      h.dead (live_front (map lexeme front ++ (lexeme x ∷ [])) (map lexeme more) (subst (Live t) split l))

  module _ (lawful : LawfulTable t) (text : List ℕ) where
    whole_begins : (front : List Placed) (x : Placed) (h : FailsAt t text front x) → Begins (tokens_of text) (front ++ (x ∷ []))
    whole_begins front x h = (h.rest, h.split ∙ sym (append_assoc front (x ∷ []) h.rest))

    text_live : (tree : Tree) → Reads t text tree → Live t (lexemes_of text)
    text_live tree r = record { text = text; more = []; tree = tree; begins = sym (append-nil (lexemes_of text)); reads = r }

    same_token : (f g : List Placed) (x y : Placed) → FailsAt t text f x → FailsAt t text g y → fails_at f x ≡ fails_at g y
    same_token f g x y p q =
        ⊎_elim (λ (e, d). cc)
        (⊎_elim (λ b. absurd (not_live text f x p g b q.live)) (λ b. absurd (not_live text g y q f b p.live)))
        (places f g x y p.rest q.rest (sym p.split ∙ q.split))

    pub one_verdict_at_most : (v w : Verdict) → Holds t text v → Holds t text w → v ≡ w
    one_verdict_at_most (reads x) (reads y) p q = ap reads (at_most_one_tree t lawful text x y p q)
    one_verdict_at_most (reads tree) (fails_at g y) p q = absurd (not_live text g y q (tokens_of text) (whole_begins g y q) (text_live tree p))
    one_verdict_at_most (reads tree) fails_at_end p q = absurd (q.unread tree p)
    one_verdict_at_most (fails_at f x) (reads tree) p q = absurd (not_live text f x p (tokens_of text) (whole_begins f x p) (text_live tree q))
    one_verdict_at_most (fails_at f x) (fails_at g y) p q = same_token f g x y p q
    one_verdict_at_most (fails_at f x) fails_at_end p q = absurd (not_live text f x p (tokens_of text) (whole_begins f x p) q.live)
    one_verdict_at_most fails_at_end (reads tree) p q = absurd (p.unread tree q)
    one_verdict_at_most fails_at_end (fails_at g y) p q = absurd (not_live text g y q (tokens_of text) (whole_begins g y q) p.live)
    one_verdict_at_most fails_at_end fails_at_end p q = refl

pub one_verdict : OneVerdict
one_verdict t lawful text bytes =
    let held = judged_holds t lawful text bytes in
    (judged t text, record { is = held; only = λ w h. one_verdict_at_most t lawful text w (judged t text) h held })

pub one_answer : OneAnswer
one_answer t lawful text bytes =
    let (v, one) = one_verdict t lawful text bytes in
    (answer t text v, record { is = (v, one.is, refl); only = λ r (w, h, e). e ∙ ap (answer t text) (one.only w h) })
