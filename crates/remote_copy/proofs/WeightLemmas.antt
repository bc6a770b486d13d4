-- Each step leaves less to do.
use Rattle.std.proofs.Common.{◌≡◌, ◌<◌, ◌+◌, ◌^◌, ℕ, List, [], ◌∷◌, ◌++◌, length, Option, Some, None, Result, Ok, Err, OnOk, sum_by, ◌∙◌, ap, arith}
use Rattle.std.proofs.lemmas.List.Sums.{sum_by-append}
use Rattle.git_object.specs.declared.frame.Kind.{Kind}
use Rattle.git_object.specs.declared.frame.Kind.TheVariants as kinds
use Rattle.remote_copy.specs.Work.{Advances, CountsOne, DescendAnswers, left_of, one_more, weight_of}
use Rattle.remote_copy.specs.declared.fault.CopyFault.{CopyFault}
use Rattle.remote_copy.specs.declared.need.Need.{Need}
use Rattle.remote_copy.specs.declared.open.Open.{Open}
use Rattle.remote_copy.specs.declared.work.Work.{Work}

sum_by-push : (stack : List Open) (item : Open) → sum_by left_of (stack ++ item ∷ []) ≡ sum_by left_of stack + left_of item
sum_by-push stack item = let whole = sum_by-append left_of stack (item ∷ []) in omega (arith, whole)

-- what is left of one object is less than an object counts
left_of-few : (item : Open) → left_of item < 2 ^ 65
left_of-few item = let small = item.needs.small in let ok = item.needs.ok in omega arith

module _ (old before : Work) (top : Open) (commits : before.commits ≡ old.commits) (others : before.others ≡ old.others) (stack : old.stack.items ≡ before.stack.items ++ top ∷ [])
    (within : top.next < length top.needs.items) where
  old_sum : sum_by left_of old.stack.items ≡ sum_by left_of before.stack.items + left_of top
  old_sum = ap (sum_by left_of) stack ∙ sum_by-push before.stack.items top

  less : left_of (one_more top) < left_of top
  less = omega arith

  falls : (after : Work) → after.commits ≡ before.commits → after.others ≡ before.others → after.stack.items ≡ before.stack.items ++ one_more top ∷ [] → weight_of after < weight_of old
  falls after c o s =
      let new_sum = ap (sum_by left_of) s ∙ sum_by-push before.stack.items (one_more top) in
      omega (arith, old_sum, new_sum, less, c, o, commits, others)

  pub falls_advance : (after : Work) (result : Result Unit CopyFault) → OnOk result (Advances before top after) → OnOk result (0 < length old.stack.items → weight_of after < weight_of old)
  falls_advance after (Ok u) a = λ some. falls after a.counts.commits a.counts.others a.stack
  falls_advance after (Err e) a = tt

  pub falls_descend : (need : Need) (found : Option Open) (after : Work) (result : Result Unit CopyFault) → DescendAnswers before top need found after result
      → OnOk result (0 < length old.stack.items → weight_of after < weight_of old)
  falls_descend need (Some item) after (Ok u) d = λ some. by item.need.kind d.counts
    where
      new_sum : sum_by left_of after.stack.items ≡ sum_by left_of before.stack.items + left_of top + left_of item
      new_sum =
          let one = sum_by-push (before.stack.items ++ top ∷ []) item in
          let two = sum_by-push before.stack.items top in
          ap (sum_by left_of) d.stack ∙ one ∙ ap (λ (n : ℕ). n + left_of item) two

      few : left_of item < 2 ^ 65
      few = left_of-few item

      by : (kind : Kind) → CountsOne kind before after → weight_of after < weight_of old
      by kinds.Commit (room, c, o) = omega (arith, old_sum, new_sum, few, room, c, o, commits, others)
      by kinds.Tree (room, o, c) = omega (arith, old_sum, new_sum, few, room, c, o, commits, others)
      by kinds.Blob (room, o, c) = omega (arith, old_sum, new_sum, few, room, c, o, commits, others)
  falls_descend need None after (Ok u) d = λ some. falls after d.counts.commits d.counts.others d.stack
  falls_descend need found after (Err e) d = tt
