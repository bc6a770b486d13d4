-- What a command answers is determined by the files, the words, the moment and the seed.
use Rattle.std.proofs.Common.{◌≡◌, ◌++◌, Ok, Err, refl, sym, ◌∙◌, ap, subst}
use Rattle.std.specs.Prelude.{codes}
use Rattle.hex.specs.Hex.{encode_lower}
use Rattle.gb_text.specs.declared.id.Id.{Id}
use Rattle.gb_store.specs.Files.{Files, History, files_of}
use Rattle.repo_steps.specs.declared.env.Env.{Env}
use Rattle.repo_steps.specs.declared.refusal.Refusal.{Refusal}
use Rattle.repo_steps.specs.declared.refusal.Refusal.TheVariants as refusal
use Rattle.repo_steps.specs.Stops.{of_missed}
use Rattle.repo_state.specs.declared.stop.FindStop.TheVariants as find
use Rattle.repo_state.specs.declared.stop.ReadStop.TheVariants as read
use Rattle.repo_steps.specs.declared.refusal.Stop.TheVariants as stop
use Rattle.repo_steps.proofs.ClearLemmas.{never_refused}
use Rattle.repo_steps.proofs.DoneLemmas.{done_steps}
use Rattle.repo_steps.proofs.StepLemmas.{steps-same}
use Rattle.repo_steps.specs.Steps.{Steps}
use Rattle.words.specs.declared.edit.Edit.{Edit as Edits}
use Rattle.repo_view.specs.Log.{LogAnswers}
use Rattle.repo_view.specs.Shown.{ShowAnswers, UsersAnswers}
use Rattle.repo_view.proofs.LawLemmas.{log_not_missed, one_log}
use Rattle.repo_view.proofs.MissedLemmas.{one_log_missed, one_show_missed, one_users_damage}
use Rattle.repo_view.proofs.ShownLemmas.{one_show, one_users, show_not_missed, shown_not_damaged}
use Rattle.bug_run.specs.Run.{CommandAnswers}
use Rattle.bug_run.specs.Answer.{Answer}
use Rattle.bug_run.proofs.PackLemmas.{one_pack_refusal, one_pack_told, pack_not_refused}
use Rattle.words.specs.declared.words.Command.{Command}
use Rattle.words.specs.declared.words.Command.TheVariants.{Edit, Log, PackRefs, Show, Users}

-- answers with the same text, none of whose lines is a refusal, are one
same_answer : (first second : Answer) → first.text ≡ second.text → first.refused ≡ 0 → second.refused ≡ 0 → first ≡ second
same_answer first second text here there = let counts : first.refused ≡ second.refused = here ∙ sym there in λ i. record { text = text i; refused = counts i }

-- a command that is done tells one text
pub one_told : (env : Env) (command : Command) (old elder one two : History) (first second : Answer) → files_of old ≡ files_of elder
    → CommandAnswers env command old one (Ok first) → CommandAnswers env command elder two (Ok second) → first ≡ second
one_told env Users old elder one two first second same here there =
    let there' = subst (λ (files : Files). UsersAnswers files env.folder (Ok second.text)) (sym same) there.0.0 in
    same_answer first second (one_users (files_of old) env.folder first.text second.text here.0.0 there') here.0.1 there.0.1
one_told env (Show bug) old elder one two first second same here there =
    let there' = subst (λ (files : Files). ShowAnswers files env.folder bug (Ok second.text)) (sym same) there.0.0 in
    same_answer first second (one_show (files_of old) env.folder bug first.text second.text here.0.0 there') here.0.1 there.0.1
one_told env (Log bug) old elder one two first second same here there =
    let there' = subst (λ (files : Files). LogAnswers files env.folder bug (Ok second.text)) (sym same) there.0.0 in
    same_answer first second (one_log (files_of old) env.folder bug first.text second.text here.0.0 there') here.0.1 there.0.1
one_told env (Edit edit) old elder one two first second same (id, here, is) (other, there, also) =
    let step = subst (λ (files : Files). Steps env edit files (files_of two) other) (sym same) (done_steps env edit elder two other there) in
    let told : id ≡ other = (steps-same env edit (files_of old) (files_of one) (files_of two) id other (done_steps env edit old one id here) step).told in
    cc (told, is, also)
one_told env PackRefs old elder one two first second same here there = one_pack_told env.folder old elder one two first second same here there

-- and has no refusal
pub done_not_refused : (env : Env) (command : Command) (old one two : History) (said : Answer) (r : Refusal)
    → CommandAnswers env command old one (Ok said) → CommandAnswers env command old two (Err (stop.Refused r)) → ⊥
done_not_refused env Users old one two said r here ((path, there, is), same) = shown_not_damaged (files_of old) env.folder said.text path here.0.0 there
done_not_refused env (Show bug) old one two said r here ((why, there, is), same) = show_not_missed (files_of old) env.folder bug said.text why here.0.0 there
done_not_refused env (Log bug) old one two said r here ((why, there, is), same) = log_not_missed (files_of old) env.folder bug said.text why here.0.0 there
done_not_refused env (Edit edit) old one two said r (id, (op, done), is) (other, refused) = never_refused env edit old r (op, done.may) (other, refused.0)
done_not_refused env PackRefs old one two said r here there = pack_not_refused env.folder old one two said r here there

-- one that edits nothing has one refusal
pub one_refusal : (env : Env) (command : Command) (old elder one two : History) (first second : Refusal) → files_of old ≡ files_of elder
    → ((edit : Edits) → command ≡ Edit edit → ⊥) → CommandAnswers env command old one (Err (stop.Refused first)) → CommandAnswers env command elder two (Err (stop.Refused second)) → first ≡ second
one_refusal env Users old elder one two first second same reads ((path, here, is), _) ((other, there, also), _) =
    let told = one_users_damage (files_of old) env.folder path other here (subst (λ (files : Files). UsersAnswers files env.folder (Err (read.Damaged other))) (sym same) there) in
    is ∙ ap refusal.Damaged told ∙ sym also
one_refusal env (Show bug) old elder one two first second same reads ((why, here, is), _) ((other, there, also), _) =
    let told = one_show_missed (files_of old) env.folder bug why other here (subst (λ (files : Files). ShowAnswers files env.folder bug (Err (find.Missed other))) (sym same) there) in
    is ∙ ap of_missed told ∙ sym also
one_refusal env (Log bug) old elder one two first second same reads ((why, here, is), _) ((other, there, also), _) =
    let told = one_log_missed (files_of old) env.folder bug why other here (subst (λ (files : Files). LogAnswers files env.folder bug (Err (find.Missed other))) (sym same) there) in
    is ∙ ap of_missed told ∙ sym also
one_refusal env (Edit edit) old elder one two first second same reads here there = absurd (reads edit refl)
one_refusal env PackRefs old elder one two first second same reads here there = one_pack_refusal env.folder old elder one two first second same here there

-- one that edits and is done tells the line of the id of its step
pub tells_its_id : (env : Env) (edit : Edits) (old new : History) (said : Answer) → CommandAnswers env (Edit edit) old new (Ok said)
    → (id : Id) × Steps env edit (files_of old) (files_of new) id × (said.text ≡ encode_lower id.bytes ++ codes "\n") × (said.refused ≡ 0)
tells_its_id env edit old new said (id, answers, is) = (id, done_steps env edit old new id answers, ap (λ (s : Answer). s.text) is, ap (λ (s : Answer). s.refused) is)
