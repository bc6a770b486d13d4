-- What is wrong with heads that are not apart is wrong with any heads below which all lies that lies below them.
use Rattle.std.proofs.Common.{inl, inr, ℕ, List, [], ◌∷◌, length, ap, arith}
use Rattle.gb_text.specs.declared.id.Id.{Id}
use Rattle.gb_text.specs.declared.id.Name.{Name}
use Rattle.object_store.specs.Held.{Objects}
use Rattle.commit_walk.specs.Below.{IsBelow}
use Rattle.commit_pack.specs.declared.fault.CommitPackFault.{CommitPackFault}
use Rattle.commit_pack.specs.declared.fault.CommitPackFault.TheVariants as pack
use Rattle.op_kind.specs.Meaning.{Meaning}
use Rattle.dag_entity.specs.Faults.{AreApart, EntityFaultHolds, IsRootCommit, IsRootNode, IsTooLarge, IsValid}
use Rattle.dag_entity.specs.Nodes.{HasPackFault, IsNeeded, IsNodeBelow}
use Rattle.dag_entity.specs.declared.entity.Loaded.{Loaded}
use Rattle.dag_entity.specs.declared.fault.EntityFault.{EntityFault}
use Rattle.dag_entity.specs.declared.fault.EntityFault.TheVariants as fault
use Rattle.dag_entity.proofs.PairLemmas.{under}

module _ {Op State Row : Type 0} (k : Meaning Op State Row) (objects : Objects) (id : Id) (authors : List Id) (heads tops : List Name) (not_apart : (one two : Name) → AreApart objects heads one two → ⊥)
    (up : (name : Name) → IsBelow objects heads name → IsBelow objects tops name) where
  needed : (name : Name) → IsNeeded objects heads name → IsNeeded objects tops name
  needed name (inl b) = inl (up name b)
  needed name (inr n) = inr (record { high = n.high; commit = n.commit; is = record { below = up n.high n.is.below; held = n.is.held }; needs = n.needs })

  pack_fault : (name : Name) (f : CommitPackFault) → HasPackFault k objects heads name f → HasPackFault k objects tops name f
  pack_fault name f h = record { commit = h.commit; is = record { below = up name h.is.below; held = h.is.held }; holds = h.holds }

  root_commit : (name : Name) → IsRootCommit objects heads name → IsRootCommit objects tops name
  root_commit name h = record { commit = h.commit; is = record { below = up name h.is.below; held = h.is.held }; root = h.root }

  pub node_below : (node : Loaded Op) → IsNodeBelow k objects heads node → IsNodeBelow k objects tops node
  node_below node h = record { below = up node.placed.commit h.below; is = h.is }

  root_node : (node : Loaded Op) → IsRootNode k objects heads node → IsRootNode k objects tops node
  root_node node h = record { is = node_below node h.is; root = h.root }

  too_large : (count : ℕ) → IsTooLarge k objects heads count → IsTooLarge k objects tops count
  too_large count (inl (is, inl many)) = inl (
    is,
    inl (record {
      names = many.names;
      once = many.once;
      many = many.many;
      each = λ name c. let one = many.each name c in record { below = up name one.below; commit = one.commit; held = one.held };
    }),
  )
  too_large count (inl (is, inr need)) = absurd (not_apart need.one need.two need.apart)
  too_large count (inr (inl ops)) = inr (inl (ops.0, pack_fault ops.0 (pack.TooLarge count) ops.1))
  too_large count (inr (inr (is, (name, need, large)))) = inr (inr (is, (name, needed name need, large)))

  pub wrong_together : (f : EntityFault) → EntityFaultHolds k objects id heads authors f → EntityFaultHolds k objects id tops authors f
  unfolding EntityFaultHolds
  wrong_together fault.Memory h = h
  wrong_together fault.Disk h = h
  wrong_together (fault.Missing name) h = (needed name h.0, h.1)
  wrong_together (fault.Damaged name) h = (needed name h.0, h.1)
  wrong_together (fault.NotCommit name) h = (up name h.0, h.1)
  wrong_together (fault.BadTree name) h = pack_fault name pack.BadTree h
  wrong_together (fault.UnknownVersion name n) h = pack_fault name (pack.UnknownVersion n) h
  wrong_together (fault.NoOps name) h = pack_fault name pack.NoOps h
  wrong_together (fault.BadClock name) h = pack_fault name pack.BadClock h
  wrong_together (fault.BadPack name) h = pack_fault name pack.BadPack h
  wrong_together (fault.BadOperation name i f) h = pack_fault name (pack.BadOperation i f) h
  wrong_together (fault.SecondRoot name) h = record { one = root_commit name h.one; other = h.other; two = root_commit h.other h.two; differ = h.differ }
  wrong_together (fault.ClockOrder high low) h =
      record { below = up high h.below; parent = h.parent; above = h.above; beneath = h.beneath; says_above = h.says_above; says_beneath = h.says_beneath; falls = h.falls }
  wrong_together (fault.ClockJump high low) h = record {
    commit = h.commit;
    is = record { below = up high h.is.below; held = h.is.held };
    single = h.single;
    above = h.above;
    beneath = h.beneath;
    says_above = h.says_above;
    says_beneath = h.says_beneath;
    jumps = h.jumps;
  }
  wrong_together (fault.MergeHasOperations name) h = record { node = h.node; is = node_below h.node h.is; named = h.named; many = h.many; some = h.some }
  wrong_together (fault.NoCreateClock name) h = record { node = h.node; is = root_node h.node h.is; named = h.named; lacks = h.lacks }
  wrong_together (fault.RepeatedOperation found) (inl h) =
      inl (record { node = h.node; is = node_below h.node h.is; one = h.one; two = h.two; differ = h.differ; at_one = h.at_one; at_two = h.at_two })
  wrong_together (fault.RepeatedOperation found) (inr h) =
      inr (record { one = h.one; two = h.two; is_one = node_below h.one h.is_one; is_two = node_below h.two h.is_two; differ = h.differ; in_one = h.in_one; in_two = h.in_two })
  wrong_together (fault.WrongId found) h = record { node = h.node; is = root_node h.node h.is; first = h.first; wrong = h.wrong }
  wrong_together fault.FirstNotCreate h = record { node = h.node; is = root_node h.node h.is; bad = h.bad }
  wrong_together (fault.SecondCreate found) h = record { node = h.node; is = node_below h.node h.is; place = h.place; op = h.op; at = h.at; named = h.named; bad = h.bad; later = h.later }
  wrong_together (fault.AuthorUnknown author) h = record { node = h.node; is = node_below h.node h.is; wrote = h.wrote; unknown = h.unknown }
  wrong_together (fault.TooLarge count) h = too_large count h
  wrong_together (fault.ClockFull name) h = absurd (not_apart h.one h.two h.apart)

  pub valid_below : IsValid k objects id tops authors → IsValid k objects id heads authors
  valid_below valid f h = valid f (wrong_together f h)

-- one head is not two
pub alone_not_apart : (objects : Objects) (top one two : Name) → AreApart objects (top ∷ []) one two → ⊥
alone_not_apart objects top one two apart = omega (arith, ap length apart.are)

module _ {Op State Row : Type 0} (k : Meaning Op State Row) (objects : Objects) (id : Id) (authors : List Id) (heads : List Name) (top : Name) (there : IsBelow objects heads top) where
  pub wrong_above : (f : EntityFault) → EntityFaultHolds k objects id (top ∷ []) authors f → EntityFaultHolds k objects id heads authors f
  wrong_above = wrong_together k objects id authors (top ∷ []) heads (alone_not_apart objects top) (under objects heads top there)

  pub valid_alone : IsValid k objects id heads authors → IsValid k objects id (top ∷ []) authors
  valid_alone valid f h = valid f (wrong_above f h)
