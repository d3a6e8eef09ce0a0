mod PlainNames
mod FillLemmas
mod DoublingLemmas
mod MadeLists
mod MadeVolumes
mod SoundPlans
