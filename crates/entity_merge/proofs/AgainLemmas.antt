-- A join that was made is seen by the next one.
use Rattle.std.proofs.Common.{◌≡◌, ◌≤◌, ℕ, List, [], ◌∷◌, Some, refl, ◌∙◌, arith}
use Rattle.gb_text.specs.declared.id.Id.{Id}
use Rattle.gb_text.specs.declared.id.Name.{Name}
use Rattle.object_store.specs.Held.{Objects}
use Rattle.op_kind.specs.Meaning.{Meaning}
use Rattle.dag_entity.specs.Agreeing.{SameNeeded}
use Rattle.dag_entity.specs.Entities.{IsEntity}
use Rattle.dag_entity.specs.Joining.{IsMergeTime, merge_name, merge_node}
use Rattle.dag_entity.specs.Nodes.{IsNode, edit_at}
use Rattle.dag_entity.specs.declared.entity.Entity.{Entity}
use Rattle.dag_entity.proofs.AgreeFaults.{entity_over}
use Rattle.dag_entity.proofs.AgreeLemmas.{edit_same}
use Rattle.dag_entity.proofs.LawValid.{edit_of_pack, pack_of_node}
use Rattle.dag_entity.proofs.JoinLemmas.{time_rises}
use Rattle.dag_entity.proofs.PairLemmas.{is_second, not_greater}
use Rattle.dag_entity.proofs.UnionLemmas.{two_below}
use Rattle.entity_merge.specs.Joins.{HasWord}
use Rattle.entity_merge.specs.declared.word.Merged.TheVariants as merged

module _ {Op State Row : Type 0} (k : Meaning Op State Row) where
  pub again_known : (before after : Objects) (local remote : Name) (author : Id) (edit now : ℕ) → SameNeeded before after (local ∷ remote ∷ []) → IsNode k after (merge_node k local remote author edit now)
      → HasWord after (Some (merge_name k local remote author edit now)) remote merged.Nothing
  again_known before after local remote author edit now agree node = two_below k before after local remote agree author edit now node

  pub again_forward : (before after : Objects) (id : Id) (local remote : Name) (author : Id) (authors : List Id) (clock now edit : ℕ) (entity : Entity Op)
      → IsEntity k before id (local ∷ remote ∷ []) authors entity → IsMergeTime before local remote clock edit → SameNeeded before after (local ∷ remote ∷ [])
      → IsNode k after (merge_node k local remote author edit now)
      → HasWord after (Some remote) (merge_name k local remote author edit now) (merged.Forward (merge_name k local remote author edit now))
  again_forward before after id local remote author authors clock now edit entity is time agree node = (
    refl,
    two_below k before after local remote agree author edit now node,
    λ b.
        let both : List Name = local ∷ remote ∷ [] in
        let there = entity_over k before after both agree id authors entity is in
        let second = is_second after local remote in
        let says_top : edit_at after (merge_name k local remote author edit now) ≡ Some edit =
        edit_of_pack k after (merge_name k local remote author edit now) (merge_node k local remote author edit now).placed.pack (pack_of_node k after (merge_node k local remote author edit now) node) in
        let says_two : edit_at after remote ≡ Some time.two = edit_same before after both agree remote (is_second before local remote) ∙ time.says_two in
        let less : edit ≤ time.two = not_greater k after id both authors entity there remote (merge_name k local remote author edit now) time.two edit second b says_two says_top in
        let rises = (time_rises before local remote clock edit time).1 in
        omega (arith, less, rises),
  )
