mod NextFeature
mod Below
