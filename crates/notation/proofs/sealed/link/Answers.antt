use Rattle.std.proofs.Common.{◌≡◌, ◌+◌, ◌<◌, List, length, take, get_or, set, replicate, Some, None, sym, refl, ap, ◌∙◌, subst, arith, rules}
use Rattle.std.specs.List.{push}
use Rattle.std.specs.Option.{option_map}
use Rattle.std.specs.Iterator.Adapters.{enumerate_count, enumerate_source, rev_source}
use Rattle.std.specs.Slice.Iter.{iter_rest}
use Rattle.std.proofs.lemmas.List.{get_or-replicate, length_push, length-take, take_more, take_all, same_from_push}
use Rattle.notation.specs.Slots.{op_in}
use Rattle.notation.specs.Views.{open_table}
use Rattle.notation.proofs.Chained.{ChainedFrom, chained_none, chained_past, chained_more}
use Rattle.notation.specs.Laws.{lawful_in}
use Rattle.notation.proofs.Seals.{entry_first}
use Rattle.notation.proofs.sealed.link.Goals as goal

-- one slot less from the back
one_less : {X : Type 0} (slots rest more : List X) (x d : X) → rest ≡ push more x → rest ≡ take (length rest) slots → (length rest ≡ length more + 1) × (more ≡ take (length more) slots) × (get_or slots (length more) d ≡ x)
one_less slots rest more x d is front =
    let size : length rest ≡ length more + 1 = ap length is ∙ length_push more x in
    let within : length more < length slots = omega (arith, ap length front, length-take (length rest) slots) in
    let parts = same_from_push more (take (length more) slots) x (get_or slots (length more) d) (sym is ∙ front ∙ ap (λ n. take n slots) size ∙ take_more slots (length more) d within) in
    (size, parts.0, sym parts.1)

pub loop-function-init : goal.loop-function-init
loop-function-init c =
    let list = c.args.list.now in
    let chained = chained_none (open_table list) (lawful_in _ list.lawful) (replicate 256 None) (replicate 64 None) refl refl (λ b lt. get_or-replicate 256 b None None lt) in
    let source : rev_source c.into_iter-function-iterator.result ≡ c.enumerate.result = ap rev_source c.into_iter-function-iterator.ensures.into_iter_gives ∙ c.rev-function-items.ensures.source in
    let all : iter_rest (enumerate_source (rev_source c.into_iter-function-iterator.result)) ≡ list.slots = ap (λ e. iter_rest (enumerate_source e)) source ∙ ap iter_rest c.enumerate.ensures.source ∙ c.iter.ensures.rest in
    let count : enumerate_count (rev_source c.into_iter-function-iterator.result) ≡ 0 = ap enumerate_count source ∙ c.enumerate.ensures.count in
    let size : length list.slots ≡ 64 = search rules in
    rw all
    (record {
      can = (tt, tt, omega arith);
      finite = tt;
      count = count;
      front = sym (take_all (length list.slots) list.slots (omega arith));
      chained = subst (ChainedFrom (open_table list) (replicate 256 None) (replicate 64 None)) (sym size) chained;
    })

pub loop-function-preserved : goal.loop-function-preserved
loop-function-preserved c =
    let list = c.args.list.now in
    let step = c.in-Some.ensures.steps in
    let less = one_less list.slots _ _ c.in-Some.slot.now None step.1.0 c.loop-function.invariant.front in
    record {
      can = (tt, tt, omega (arith, c.loop-function.invariant.can.2, c.loop-function.invariant.count, step.0, less.0));
      finite = tt;
      count = step.0 ∙ c.loop-function.invariant.count;
      front = less.1;
      chained = chained_past (open_table list) c.loop-function.firsts c.loop-function.nexts _ (subst (ChainedFrom (open_table list) c.loop-function.firsts c.loop-function.nexts) less.0 c.loop-function.invariant.chained) (ap (option_map op_in) (less.2 ∙ c.in_default.is));
    }

pub loop-function-preserved-in-Some-slot : goal.loop-function-preserved-in-Some-slot
loop-function-preserved-in-Some-slot c =
    let list = c.args.list.now in
    let t = open_table list in
    let lawful = lawful_in t list.lawful in
    let step = c.in-Some.ensures.steps in
    let less = one_less list.slots _ _ c.in-Some.slot.now None step.1.0 c.loop-function.invariant.front in
    let has = ap (option_map op_in) (less.2 ∙ c.in-Some-slot.is) in
    let first = c.from-byte.ensures ∙ sym (entry_first c.in-Some-slot.entry (lawful.each _ _ has).spelling) in
    let small : c.from-byte.result < 256 = search rules in
    let firsts = c.loop-function.firsts in
    let nexts = c.loop-function.nexts in
    let byte = c.from-byte.result in
    let n = length (iter_rest (enumerate_source (rev_source c.next.new.self))) in
    let at : n ≡ c.in-Some.function = omega (arith, step.1.1, c.loop-function.invariant.count) in
    record {
      can = (tt, tt, omega (arith, c.loop-function.invariant.can.2, c.loop-function.invariant.count, step.0, less.0));
      finite = tt;
      count = step.0 ∙ c.loop-function.invariant.count;
      front = less.1;
      chained =
          subst (λ f. ChainedFrom t (set firsts byte (Some f)) (set nexts f (get_or firsts byte None)) n) at
          (chained_more t firsts nexts n (subst (ChainedFrom t firsts nexts) less.0 c.loop-function.invariant.chained) (op_in c.in-Some-slot.entry) byte has first small);
    }
