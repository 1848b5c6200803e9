mod Named
mod Refusing
mod OneOrder
mod OneMeaning
