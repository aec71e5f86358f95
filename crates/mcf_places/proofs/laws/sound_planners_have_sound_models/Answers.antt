use Rattle.mcf_places.proofs.ProperModels.{exit_is_place, sound_model}
use Rattle.mcf_places.proofs.laws.sound_planners_have_sound_models.Goals as goal

pub returns : goal.returns
returns c =
    record { sound_model = λ most P sound. sound_model most P sound.routes; exit_is_place = λ most P v h. exit_is_place most P v h }
