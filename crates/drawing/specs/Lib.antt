pub mod Markup
pub mod Paints
pub mod Pictures
pub mod Svg
pub mod Dumps
